-- A stretch of monomials times a polynomial, added to a list. Assumes nothing.
use Rattle.std.specs.Prelude.{◌-◌, ◌^◌, ◌≤◌, List, length}
use Rattle.terms.specs.Monomial.{Monomial}
use Rattle.terms.specs.Sizes.{KeysBelow, SizesAtMost}

-- at most one product of two stored polynomials: one more can be added
pub record OneProduct (list : List Monomial) : Type 0 where
  pub keys : KeysBelow (2 ^ 20) list
  pub sizes : SizesAtMost (2 ^ 60 - 1) list
  pub short : length list ≤ 4096
