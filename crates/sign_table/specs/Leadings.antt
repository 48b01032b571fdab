-- Leading coefficients first: each polynomial loses its leading coefficient until that isn't zero, or nothing is left. Assumes nothing.
use Rattle.std.specs.Prelude.{true, false, cond, List, [], ◌∷◌, map, ℕ, zero, suc, eqb}
use Rattle.field.specs.declared.sign.Sign.{Sign}
use Rattle.field.specs.declared.sign.Sign.TheVariants.{Neg, Zero, Pos}
use Rattle.poly.specs.Poly.{Poly, is_zero}
use Rattle.poly.specs.Leading.{leading, without_leading, degree}
use Rattle.sign_table.specs.Tree.{Tree, GivenUp}
use Rattle.sign_table.specs.Facts.{Fact, ask}

-- What is left of a polynomial in its first variable: the same sign everywhere, or a polynomial that isn't constant, with its leading coefficient's sign, not zero.
pub data Left : Type 0 where
  Plain : Sign → Left
  Real : Poly → Sign → Left

-- of p, whose leading coefficient has the sign s, not zero
abbrev pub left_of : Poly → Sign → Left
left_of p s = cond (eqb (degree p) 0) (Plain s) (Real p s)

-- go on with the polynomials still to be settled, ps, and what is left of the others, ls, once the leading coefficient of p is found to have this sign
abbrev pub headed : Poly → Sign → List Poly → List Left → (List Poly → List Left → Tree) → Tree
headed p Neg ps ls k = k ps (left_of p Neg ∷ ls)
headed p Zero ps ls k = k (without_leading p ∷ ps) ls
headed p Pos ps ls k = k ps (left_of p Pos ∷ ls)

-- ls turned round, in front of ms
unfoldable pub turned_round : List Left → List Left → List Left
turned_round [] ms = ms
turned_round (l ∷ ls) ms = turned_round ls (l ∷ ms)

-- Go on with what is left of ps, after ls, of which the last comes first; at most `looks` polynomials are looked at. n: the variables of the coefficients
unfoldable pub leadings : (looks : ℕ) → ℕ → List Poly → List Left → List Fact → (List Left → List Fact → Tree) → Tree
leadings zero n [] ls fs k = k (turned_round ls []) fs
leadings zero n (p ∷ ps) ls fs k = GivenUp
leadings (suc looks) n [] ls fs k = k (turned_round ls []) fs
leadings (suc looks) n (p ∷ ps) ls fs k =
    elim (is_zero p) [
      | true ↦ leadings looks n ps (Plain Zero ∷ ls) fs k
      | false ↦ ask n (leading n p) fs (λ s gs. headed p s ps ls (λ qs ms. leadings looks n qs ms gs k))
    ]

-- those that aren't of one sign everywhere
unfoldable pub reals : List Left → List Left
reals [] = []
reals (Plain s ∷ ls) = reals ls
reals (Real p s ∷ ls) = Real p s ∷ reals ls

-- the signs of all, from those of the real ones
unfoldable pub filled : List Left → List Sign → List Sign
filled [] r = []
filled (Plain s ∷ ls) r = s ∷ filled ls r
filled (Real p s ∷ ls) [] = Zero ∷ filled ls []
filled (Real p s ∷ ls) (t ∷ r) = t ∷ filled ls r

abbrev pub filled_all : List Left → List (List Sign) → List (List Sign)
filled_all ls m = map (filled ls) m
