-- Intervals of a real closed field, without their ends, seen in a direction e: for Pos from left to right. Assumes nothing.
use Rattle.std.specs.Prelude.{◌≡◌, ◌⊎◌}
use Rattle.field.specs.declared.sign.Sign.{Sign}
use Rattle.field.specs.Field.{RealClosedField}
use Rattle.field.specs.Order.{To}

-- x is b, or lies before b in the direction e
abbrev pub UpTo : {R : Type 0} → RealClosedField R → Sign → R → R → Type 0
UpTo f e b x = (x ≡ b) ⊎ To f e x b

-- an end of an interval: none, or a number
pub data End (R : Type 0) : Type 0 where
  Open : End R
  At : R → End R

abbrev pub After : {R : Type 0} → RealClosedField R → Sign → End R → R → Type 0
After f e Open x = Unit {0}
After f e (At a) x = To f e a x

abbrev pub Before : {R : Type 0} → RealClosedField R → Sign → End R → R → Type 0
Before f e Open x = Unit {0}
Before f e (At b) x = To f e x b

-- x lies in the interval that starts at l and ends at r
abbrev pub Inside : {R : Type 0} → RealClosedField R → Sign → End R → End R → R → Type 0
Inside f e l r x = After f e l x × Before f e r x

-- the end r comes after the end l: the interval is not empty
abbrev pub Ordered : {R : Type 0} → RealClosedField R → Sign → End R → End R → Type 0
Ordered f e Open r = Unit {0}
Ordered f e (At a) r = Before f e r a
