-- Which tree of questions a tree in lent memory is: ps are the polynomials that its questions name, cells the numbers of its questions. Assumes nothing.
use Rattle.std.specs.Prelude.{◌≡◌, ℕ, ◌+◌, ◌*◌, ◌<◌, ◌≤◌, List, length, ℤ, slice_index_or}
use Rattle.poly.specs.Poly.{Poly, End}
use Rattle.sign_table.specs.Tree as sign
use Rattle.decision.specs.Asked.{questions}
use Rattle.question.specs.declared.tree.Tree.{Tree}
use Rattle.question.specs.declared.tree.Tree.TheVariants.{Yes, No, GivenUp, Question as Numbered}
use Rattle.question.specs.Nodes.{node_at, capped}

-- an answer, or a question asked before number i
abbrev pub Earlier : ℕ → Tree → Type 0
Earlier i Yes = Unit {0}
Earlier i No = Unit {0}
Earlier i GivenUp = Unit {0}
Earlier i (Numbered j) = j < i

-- t is a question about p that stands among the numbers, its three trees being A, B and C, and it has so many questions
pub record IsQuestion (ps : List Poly) (cells : List ℤ) (p : Poly) (total : ℕ) (A B C : Tree → Type 0) (t : Tree) : Type 0 where
  pub place : ℕ
  pub is : t ≡ Numbered place
  pub inside : 5 * place + 5 ≤ length cells
  pub named : (node_at cells place).polynomial < length ps
  pub about : slice_index_or ps (node_at cells place).polynomial End ≡ p
  pub weighs : (node_at cells place).weight ≡ capped total
  pub below_earlier : Earlier place (node_at cells place).below
  pub at_earlier : Earlier place (node_at cells place).at
  pub above_earlier : Earlier place (node_at cells place).above
  pub below : A (node_at cells place).below
  pub at : B (node_at cells place).at
  pub above : C (node_at cells place).above

unfoldable pub IsTree : List Poly → List ℤ → sign.Tree → Tree → Type 0
IsTree ps cells sign.Yes t = t ≡ Yes
IsTree ps cells sign.No t = t ≡ No
IsTree ps cells sign.GivenUp t = t ≡ GivenUp
IsTree ps cells (sign.Ask p a b c) t = IsQuestion ps cells p (questions (sign.Ask p a b c)) (IsTree ps cells a) (IsTree ps cells b) (IsTree ps cells c) t
