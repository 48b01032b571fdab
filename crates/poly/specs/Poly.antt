-- Polynomials in n variables with whole coefficients: lists of coefficients in the first variable, which are polynomials in the n - 1 others. Assumes nothing.
use Rattle.std.specs.Prelude.{Bool, true, false, cond, ◌&&◌, List, [], ◌∷◌, ℕ, zero, suc, eqb, ℤ, pos, negsuc}

-- with no variable a number; else End and Coef make the list of coefficients, the lowest first, the last one not zero. End alone is zero
pub data Poly : Type 0 where
  Number : ℤ → Poly
  End : Poly
  Coef : (coefficient more : Poly) → Poly

unfoldable pub from_coefs : List Poly → Poly
from_coefs [] = End
from_coefs (c ∷ cs) = Coef c (from_coefs cs)

unfoldable pub coefs : Poly → List Poly
coefs (Number z) = []
coefs End = []
coefs (Coef c r) = c ∷ coefs r

-- the number that a polynomial with no variable is
abbrev pub the_number : Poly → ℤ
the_number (Number z) = z
the_number End = pos 0
the_number (Coef c r) = pos 0

abbrev pub is_zero_number : ℤ → Bool
is_zero_number (pos n) = eqb n 0
is_zero_number (negsuc n) = false

abbrev pub is_zero : Poly → Bool
is_zero (Number z) = is_zero_number z
is_zero End = true
is_zero (Coef c r) = false

-- zero, with n variables
abbrev pub zero_poly : ℕ → Poly
zero_poly zero = Number (pos 0)
zero_poly (suc n) = End

unfoldable pub all_zero : List Poly → Bool
all_zero [] = true
all_zero (c ∷ cs) = is_zero c && all_zero cs

-- without the zeros at its end
unfoldable pub trim : List Poly → List Poly
trim [] = []
trim (c ∷ cs) = cond (is_zero c && all_zero cs) [] (c ∷ trim cs)
