-- How high the keys and how large the coefficients of a list of monomials are. Assumes nothing.
use Rattle.std.specs.Prelude.{ℕ, ◌<◌, ◌≤◌, List, [], ◌∷◌}
use Rattle.poly.specs.Modest.{magnitude}
use Rattle.terms.specs.Monomial.{Monomial}

unfoldable pub KeysBelow : ℕ → List Monomial → Type 0
KeysBelow hi [] = Unit {0}
KeysBelow hi (m ∷ ms) = (m.key < hi) × KeysBelow hi ms

-- without their signs
unfoldable pub SizesAtMost : ℕ → List Monomial → Type 0
SizesAtMost b [] = Unit {0}
SizesAtMost b (m ∷ ms) = (magnitude m.times ≤ b) × SizesAtMost b ms
