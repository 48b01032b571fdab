-- What sound arrays give to the steps of the machine. Assumes nothing.
use Rattle.std.specs.Prelude.{ℕ, ◌-◌, ◌*◌, ◌<◌, ◌≤◌, length}
use Rattle.sign_table.specs.Tree as sign
use Rattle.machine.specs.Stacks as stack
use Rattle.machine.specs.Stacks.{Sound}
use Rattle.question.specs.declared.tree.Tree.{Tree}
use Rattle.stacks.specs.declared.marks.Marks.{Marks}
use Rattle.stacks.specs.Values.{question_in}
use Rattle.stacks.specs.Memories.{Cells, marks_from, memory_of}
use Rattle.table_machine.specs.Fitting.{Fitting}
use Rattle.table_machine.specs.Moving.{Room, Askable}

-- room for all polynomials of 40 tables, one within the other, and 3,500 questions
pub record Enough (c : Cells) : Type 0 where
  pub slots : 65 * 2521 ≤ length c.slots
  pub lefts : 2 * 2521 ≤ length c.lefts
  pub facts : 3 * 3540 ≤ length c.facts
  pub frames : 4 * 39 ≤ length c.frames
  pub questions : 10 * 3500 ≤ length c.questions

pub record SoundLaws : Type 0 where
  pub facing_fits : (n : ℕ) (trees : Tree → sign.Tree) (c : Cells) (m : Marks) (pending : ℕ) → Sound (memory_of n trees c) (stack.Facing (marks_from n c.slots m) pending) → Fitting m
  pub facing_room : (n : ℕ) (trees : Tree → sign.Tree) (c : Cells) (m : Marks) (pending : ℕ) → Enough c → pending < 3500 →
      Sound (memory_of n trees c) (stack.Facing (marks_from n c.slots m) pending) → Room c m pending
  pub holding_asks : (n : ℕ) (trees : Tree → sign.Tree) (c : Cells) (t : sign.Tree) (pending : ℕ) → Enough c → 0 < pending → pending ≤ 3500 →
      Sound (memory_of n trees c) (stack.Holding t pending) → Askable c (question_in c.questions (pending - 1)).marks
