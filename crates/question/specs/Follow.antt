-- The answer of a tree where its polynomials have given signs. Assumes nothing.
use Rattle.std.specs.Prelude.{◌≡◌, ℕ, ◌<◌, List, length, ℤ, slice_index_or}
use Rattle.field.specs.declared.sign.Sign.{Sign}
use Rattle.field.specs.declared.sign.Sign.TheVariants.{Zero}
use Rattle.poly.specs.Poly.{Poly, End}
use Rattle.sign_table.specs.Tree as sign
use Rattle.words.specs.declared.answer.Answer.{Answer}
use Rattle.words.specs.declared.answer.Answer.TheVariants.{Yes, No, GivenUp}
use Rattle.question.specs.declared.tree.Tree.{Tree}
use Rattle.question.specs.Denote.{Earlier, IsTree}

-- where each polynomial has the sign that sg gives it
unfoldable pub answer_by : (Poly → Sign) → sign.Tree → sign.Tree
answer_by sg sign.Yes = sign.Yes
answer_by sg sign.No = sign.No
answer_by sg sign.GivenUp = sign.GivenUp
answer_by sg (sign.Ask p a b c) = sign.by_sign (sg p) (answer_by sg a) (answer_by sg b) (answer_by sg c)

abbrev pub answer_tree : Answer → sign.Tree
answer_tree Yes = sign.Yes
answer_tree No = sign.No
answer_tree GivenUp = sign.GivenUp

-- the signs are those that sg gives the polynomials
abbrev pub Matches : List Poly → List Sign → (Poly → Sign) → Type 0
Matches ps signs sg = (k : ℕ) → k < length ps → slice_index_or signs k Zero ≡ sg (slice_index_or ps k End)

-- whatever tree it is, and whatever gives the signs, r is that tree's answer
abbrev pub Follows : List ℤ → ℕ → Tree → List Sign → Answer → Type 0
Follows cells limit t signs r =
    (ps : List Poly) (sg : Poly → Sign) (s : sign.Tree) → IsTree ps cells s t → Earlier limit t → Matches ps signs sg → answer_tree r ≡ answer_by sg s
