-- The numbers of the questions that were asked, and how they grow. Assumes nothing.
use Rattle.std.specs.Prelude.{◌≡◌, List, ℤ, Ok, Err, Result}
use Rattle.arena.specs.Standing.{standing, GrownBy, Unchanged}
use Rattle.question.specs.declared.questions.Questions.{Questions}
use Rattle.question.specs.declared.tree.Tree.{Tree}
use Rattle.question.specs.declared.tree.Tree.TheVariants.{Question as Numbered}
use Rattle.question.specs.declared.tree.Question.{Question}
use Rattle.question.specs.Nodes.{node_cells}

abbrev pub numbers : Questions → List ℤ
numbers q = standing q.arena

-- the new question stands behind the others, and its index is given back; or there is no room, and nothing has changed
abbrev pub Asks : {E : Type 0} → Result Tree E → Question → (before after : Questions) → Type 0
Asks (Ok t) q before after = (t ≡ Numbered before.len) × GrownBy (node_cells q) before.arena after.arena
Asks (Err _) q before after = Unchanged before.arena after.arena
