-- What a tree says and what it is for facts to be true, where the variables have given values; and of how many variables they speak. Assumes nothing.
use Rattle.std.specs.Prelude.{◌≡◌, ◌⊎◌, List, [], ◌∷◌, ℕ, length}
use Rattle.field.specs.Field.{RealClosedField}
use Rattle.poly.specs.Poly.{Poly}
use Rattle.poly.specs.Value.{value, Depth}
use Rattle.sign_table.specs.Tree.{Tree, Yes, No, GivenUp, Ask, by_sign}
use Rattle.sign_table.specs.Facts.{Fact}

-- the tree's answer where the variables have the values e: a question is followed to the end that the sign of its polynomial's value tells
unfoldable pub Says : {R : Type 0} → RealClosedField R → Tree → Tree → List R → Type 0
Says f what Yes e = what ≡ Yes
Says f what No e = what ≡ No
Says f what GivenUp e = what ≡ GivenUp
Says f what (Ask p a b c) e = by_sign (f.sign (value f p e)) (Says f what a e) (Says f what b e) (Says f what c e)

-- an answer that isn't given up
abbrev pub YesOrNo : Tree → Type 0
YesOrNo what = (what ≡ Yes) ⊎ (what ≡ No)

-- every polynomial asked about has just n variables
unfoldable pub DepthTree : ℕ → Tree → Type 0
DepthTree n Yes = Unit {0}
DepthTree n No = Unit {0}
DepthTree n GivenUp = Unit {0}
DepthTree n (Ask p a b c) = Depth n p × DepthTree n a × DepthTree n b × DepthTree n c

-- every one has just n variables
abbrev pub DepthAll : ℕ → List Poly → Type 0
DepthAll n [] = Unit {0}
DepthAll n (p ∷ ps) = Depth n p × DepthAll n ps

-- each fact speaks of as many variables as there are values, and its polynomial has its sign there
abbrev pub TrueFacts : {R : Type 0} → RealClosedField R → List R → List Fact → Type 0
TrueFacts f e [] = Unit {0}
TrueFacts f e (h ∷ hs) = Depth (length e) h.poly × (f.sign (value f h.poly e) ≡ h.sign) × TrueFacts f e hs
