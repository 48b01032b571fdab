-- Which numbers are stored polynomials. Assumes nothing.
use Rattle.std.specs.Prelude.{ℕ, suc, ◌-◌, ◌^◌, ◌≤◌, Bool, true, not, ◌&&◌, List, [], ◌∷◌, length, ℤ, nat_le, nat_lt}
use Rattle.poly.specs.Poly.{is_zero_number}
use Rattle.poly.specs.Modest.{magnitude}
use Rattle.terms.specs.Monomial.{Monomial, Rising}
use Rattle.terms.specs.Sizes.{SizesAtMost}
use Rattle.terms.specs.Cells.{monomials_of}

-- at most 64 monomials whose keys rise, with coefficients below 2^27 without their signs and none zero; a sum of two keys stays below 2^20
pub record Stored (cells : List ℤ) : Type 0 where
  pub rising : Rising 0 (2 ^ 19) (monomials_of cells)
  pub sizes : SizesAtMost (2 ^ 27 - 1) (monomials_of cells)
  pub short : length cells ≤ 64

-- the same as a test
unfoldable pub is_rising : ℕ → ℕ → List Monomial → Bool
is_rising lo hi [] = true
is_rising lo hi (m ∷ ms) = nat_le lo m.key && nat_lt m.key hi && not (is_zero_number m.times) && is_rising (suc m.key) hi ms

unfoldable pub are_small : ℕ → List Monomial → Bool
are_small b [] = true
are_small b (m ∷ ms) = nat_le (magnitude m.times) b && are_small b ms

unfoldable pub is_stored : List ℤ → Bool
is_stored cells = is_rising 0 (2 ^ 19) (monomials_of cells) && are_small (2 ^ 27 - 1) (monomials_of cells) && nat_le (length cells) 64
