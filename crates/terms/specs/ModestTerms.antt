-- Which lists of monomials are modest polynomials. Assumes nothing.
use Rattle.std.specs.Prelude.{ℕ, zero, suc, ◌+◌, ◌/◌, ◌%◌, ◌^◌, Bool, true, cond, ◌&&◌, List, [], ◌∷◌, ◌==◌, nat_le, nat_lt}
use Rattle.poly.specs.Modest.{magnitude}
use Rattle.terms.specs.Monomial.{Monomial}

-- the n lowest digits are at most 8
unfoldable pub small_key : ℕ → ℕ → Bool
small_key zero k = true
small_key (suc n) k = nat_lt (k % 32) 9 && small_key n (k / 32)

-- all coefficients below 2^27 without their signs, all exponents at most 8
unfoldable pub small_terms : ℕ → List Monomial → Bool
small_terms n [] = true
small_terms n (m ∷ ms) = nat_lt (magnitude m.times) (2 ^ 27) && small_key n m.key && small_terms n ms

-- one more than the lowest digit, for each last of the monomials that differ only in it
unfoldable pub last_digits : List Monomial → ℕ
last_digits [] = 0
last_digits (m ∷ []) = m.key % 32 + 1
last_digits (m ∷ k ∷ ms) = cond (m.key / 32 == k.key / 32) 0 (m.key % 32 + 1) + last_digits (k ∷ ms)

-- how many numbers the polynomial holds as nested lists
abbrev pub count_terms : ℕ → List Monomial → ℕ
count_terms zero ts = 1
count_terms (suc n) ts = last_digits ts

abbrev pub modest_terms : ℕ → List Monomial → Bool
modest_terms n ts = small_terms n ts && nat_le (count_terms n ts) 64
