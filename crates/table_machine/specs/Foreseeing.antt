-- What comes next in the run that counts. Assumes nothing.
use Rattle.std.specs.Prelude.{◌≡◌, ℕ, ◌<◌, Some}
use Rattle.sign_table.specs.Tree as sign
use Rattle.machine.specs.Machine.{counting}
use Rattle.machine.specs.Stacks as stack
use Rattle.machine.specs.Stacks.{Sound}
use Rattle.machine.specs.Theorems.{Advances, nothing_more}
use Rattle.question.specs.declared.tree.Tree.{Tree}
use Rattle.stacks.specs.declared.marks.Marks.{Marks}
use Rattle.stacks.specs.Memories.{Cells, marks_from, memory_of}
use Rattle.table_machine.specs.declared.outlook.Outlook.{Outlook}
use Rattle.table_machine.specs.declared.outlook.Outlook.TheVariants.{Look, GiveUp, Divide}
use Rattle.table_machine.specs.Reals.{FoundHighest}

-- the branch is given up, with nothing written
abbrev pub GivesUp : ℕ → Cells → Marks → Type 0
GivesUp n c m = (k : ℕ) (trees : Tree → sign.Tree) → Sound (memory_of n trees c) (stack.Facing (marks_from n c.slots m) k) →
    Advances counting n (memory_of n trees c) (stack.Facing (marks_from n c.slots m) k) (memory_of n trees c) (stack.Holding sign.GivenUp k) 0 nothing_more

abbrev pub Foresees : ℕ → Cells → Marks → Outlook → Type 0
Foresees n c m Look = (0 < m.looks) × (0 < m.ahead)
Foresees n c m GiveUp = GivesUp n c m
Foresees n c m (Divide t) = (m.ahead ≡ 0) × (m.frames < 39) × FoundHighest n c m (Some t)
