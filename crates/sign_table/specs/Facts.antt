-- What is known of the signs of polynomials, and questions about the rest. Assumes nothing.
use Rattle.std.specs.Prelude.{true, false, List, [], ◌∷◌, ℕ, zero, suc}
use Rattle.field.specs.declared.sign.Sign.{Sign}
use Rattle.field.specs.declared.sign.Sign.TheVariants.{Neg, Zero, Pos}
use Rattle.field.specs.Sign.{flip, sign_of}
use Rattle.poly.specs.Poly.{Poly, the_number, is_zero}
use Rattle.poly.specs.Arithmetic.{negative, same}
use Rattle.sign_table.specs.Tree.{Tree, Ask}

-- this polynomial has this sign
pub record Fact : Type 0 where
  pub poly : Poly
  pub sign : Sign

pub data Known : Type 0 where
  Unknown : Known
  Is : Sign → Known

-- the sign that the first fact about p or -p gives p; n: their variables
unfoldable pub among : ℕ → Poly → List Fact → Known
among n p [] = Unknown
among n p (f ∷ fs) =
    elim (same n p f.poly) [
      | true ↦ Is f.sign
      | false ↦ elim (same n (negative n p) f.poly) [ true ↦ Is (flip f.sign) | false ↦ among n p fs ]
    ]

-- a number has its sign, the zero polynomial is zero, and of others the facts tell
abbrev pub known : ℕ → Poly → List Fact → Known
known zero p fs = Is (sign_of (the_number p))
known (suc n) p fs = elim (is_zero p) [ true ↦ Is Zero | false ↦ among (suc n) p fs ]

-- go on with the sign of p, which is asked for where it isn't known, and becomes a fact
abbrev pub ask_known : Known → Poly → List Fact → (Sign → List Fact → Tree) → Tree
ask_known (Is s) p fs k = k s fs
ask_known Unknown p fs k =
    Ask p (k Neg (record { poly = p; sign = Neg } ∷ fs)) (k Zero (record { poly = p; sign = Zero } ∷ fs)) (k Pos (record { poly = p; sign = Pos } ∷ fs))

abbrev pub ask : ℕ → Poly → List Fact → (Sign → List Fact → Tree) → Tree
ask n p fs k = ask_known (known n p fs) p fs k
