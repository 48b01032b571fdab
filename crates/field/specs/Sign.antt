-- The arithmetic of signs. Assumes nothing.
use Rattle.std.specs.Prelude.{cond, ℤ, pos, negsuc, eqb}
use Rattle.field.specs.declared.sign.Sign.{Sign}
use Rattle.field.specs.declared.sign.Sign.TheVariants.{Neg, Zero, Pos}

-- the sign of -x
abbrev pub flip : Sign → Sign
flip Neg = Pos
flip Zero = Zero
flip Pos = Neg

-- the sign of x * y
abbrev pub times : Sign → Sign → Sign
times Neg s = flip s
times Zero s = Zero
times Pos s = s

-- the sign of a whole number
abbrev pub sign_of : ℤ → Sign
sign_of (pos n) = cond (eqb n 0) Zero Pos
sign_of (negsuc n) = Neg

-- -1, 0 or 1
abbrev pub number_of : Sign → ℤ
number_of Neg = negsuc 0
number_of Zero = pos 0
number_of Pos = pos 1
