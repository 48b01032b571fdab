-- Polynomials as lists of monomials: each has a key, which holds the exponents as digits in base 32, and a coefficient. The first variable's digit is the highest. Assumes nothing.
use Rattle.std.specs.Prelude.{ℕ, zero, suc, ◌+◌, ◌^◌, ◌<◌, ◌≤◌, true, false, cond, not, T, List, [], ◌∷◌, ◌++◌, ℤ, pos, ◌+ℤ◌, ◌==◌}
use Rattle.poly.specs.Poly.{Poly, Number, End, Coef, the_number, is_zero_number}

pub record Monomial : Type 0 where
  pub key : ℕ
  pub times : ℤ

abbrev pub monomial : ℕ → ℤ → Monomial
monomial k x = record { key = k; times = x }

-- every key d higher
unfoldable pub raised : ℕ → List Monomial → List Monomial
raised d [] = []
raised d (m ∷ ms) = monomial (d + m.key) m.times ∷ raised d ms

-- a number as a list of monomials; zero has none
unfoldable pub constant_terms : ℤ → List Monomial
constant_terms z = elim (is_zero_number z) [ true ↦ [] | false ↦ monomial 0 z ∷ [] ]

-- the monomials of a polynomial in n variables
unfoldable pub flat : ℕ → Poly → List Monomial
flat zero p = constant_terms (the_number p)
flat (suc n) (Number z) = []
flat (suc n) End = []
flat (suc n) (Coef c r) = flat n c ++ raised (32 ^ n) (flat (suc n) r)

-- the sum of the coefficients that have this key
unfoldable pub coefficient_at : ℕ → List Monomial → ℤ
coefficient_at k [] = pos 0
coefficient_at k (m ∷ ms) = cond (m.key == k) m.times (pos 0) +ℤ coefficient_at k ms

-- keys rise, from lo on and below hi, and no coefficient is zero
unfoldable pub Rising : ℕ → ℕ → List Monomial → Type 0
Rising lo hi [] = Unit {0}
Rising lo hi (m ∷ ms) = (lo ≤ m.key) × (m.key < hi) × T (not (is_zero_number m.times)) × Rising (suc m.key) hi ms
