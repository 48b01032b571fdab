-- Answers that depend on the signs of polynomials. Assumes nothing.
use Rattle.field.specs.declared.sign.Sign.{Sign}
use Rattle.field.specs.declared.sign.Sign.TheVariants.{Neg, Zero, Pos}
use Rattle.poly.specs.Poly.{Poly}

-- Ask p a b c is a, b or c as p is below, at or above zero
pub data Tree : Type 0 where
  Yes : Tree
  No : Tree
  GivenUp : Tree
  Ask : Poly → Tree → Tree → Tree → Tree

-- one of three, by a sign
abbrev pub by_sign {ℓ} : {A : Type ℓ} → Sign → A → A → A → A
by_sign Neg a b c = a
by_sign Zero a b c = b
by_sign Pos a b c = c
