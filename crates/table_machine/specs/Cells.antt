-- The numbers of the machine's arrays. Assumes nothing.
use Rattle.std.specs.Prelude.{List, ℤ}
use Rattle.stacks.specs.Memories.{Cells}
use Rattle.table_machine.specs.declared.arrays.Machine.{Machine}

abbrev pub cells_of : Machine → Cells
cells_of m = record { slots = m.slots.now; lefts = m.lefts.now; facts = m.facts.now; frames = m.frames.now; questions = m.questions.now }

-- the slots and the frames stay
abbrev pub rewritten : Cells → (lefts facts questions : List ℤ) → Cells
rewritten c lefts facts questions = record { slots = c.slots; lefts = lefts; facts = facts; frames = c.frames; questions = questions }
