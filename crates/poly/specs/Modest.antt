-- Modest polynomials, and terms as polynomials unless one on the way isn't modest. Assumes nothing.
use Rattle.std.specs.Prelude.{Bool, true, cond, ◌&&◌, List, [], ◌∷◌, ℕ, zero, suc, ◌+◌, ◌^◌, ltb, leb, length, ℤ, pos, negsuc}
use Rattle.field.specs.Sentence.{Term, Var, Num, Sum, Product}
use Rattle.poly.specs.Poly.{Poly, coefs, the_number}
use Rattle.poly.specs.Arithmetic.{constant, variable, sum, product}

-- without its sign
abbrev pub magnitude : ℤ → ℕ
magnitude (pos n) = n
magnitude (negsuc n) = suc n

unfoldable pub every_by : (Poly → Bool) → List Poly → Bool
every_by f [] = true
every_by f (c ∷ cs) = f c && every_by f cs

unfoldable pub small : ℕ → Poly → Bool
small zero p = ltb (magnitude (the_number p)) (2 ^ 27)
small (suc n) p = leb (length (coefs p)) 9 && every_by (small n) (coefs p)

unfoldable pub total_by : (Poly → ℕ) → List Poly → ℕ
total_by f [] = 0
total_by f (c ∷ cs) = f c + total_by f cs

-- how many numbers it holds
unfoldable pub number_count : ℕ → Poly → ℕ
number_count zero p = 1
number_count (suc n) p = total_by (number_count n) (coefs p)

-- A polynomial in n variables is modest if all its numbers are below 2^27 without their signs, each of its lists has at most nine coefficients,
-- and it holds at most 64 numbers in all, the zeros within innermost lists counted. Whatever isn't modest is given up at once.
abbrev pub modest : ℕ → Poly → Bool
modest n p = small n p && leb (number_count n p) 64

pub data Checked : Type 0 where
  TooBig : Checked
  Fine : Poly → Checked

abbrev pub checked : ℕ → Poly → Checked
checked n p = cond (modest n p) (Fine p) TooBig

abbrev pub on_both : (Poly → Poly → Checked) → Checked → Checked → Checked
on_both f TooBig q = TooBig
on_both f (Fine p) TooBig = TooBig
on_both f (Fine p) (Fine q) = f p q

-- a term with n variables as a polynomial
unfoldable pub term_poly : ℕ → Term → Checked
term_poly n (Var i) = checked n (variable n i)
term_poly n (Num z) = checked n (constant n z)
term_poly n (Sum s t) = on_both (λ p q. checked n (sum n p q)) (term_poly n s) (term_poly n t)
term_poly n (Product s t) = on_both (λ p q. checked n (product n p q)) (term_poly n s) (term_poly n t)
