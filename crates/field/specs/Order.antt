-- The order of a real closed field, by the sign of a difference, in either direction. Assumes nothing.
use Rattle.std.specs.Prelude.{◌≡◌}
use Rattle.field.specs.declared.sign.Sign.{Sign}
use Rattle.field.specs.declared.sign.Sign.TheVariants.{Neg, Zero, Pos}
use Rattle.field.specs.Field.{RealClosedField}

-- a sign that is a direction: below or above
abbrev pub NotZero : Sign → Type 0
NotZero Neg = Unit {0}
NotZero Zero = ⊥
NotZero Pos = Unit {0}

-- b lies from a in the direction e: b is above a for Pos, below a for Neg, and is a for Zero
abbrev pub To : {R : Type 0} → RealClosedField R → Sign → R → R → Type 0
To f e a b = f.sign (f.add b (f.neg a)) ≡ e
