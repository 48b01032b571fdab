-- Where the run that counts is done with a branch. Assumes nothing.
use Rattle.std.proofs.Common.{◌≡◌, ℕ, ◌-◌, ◌<◌, ◌≤◌, Some, None, ap, ◌∙◌, arith}
use Rattle.sign_table.specs.Tree as sign
use Rattle.sign_table.specs.Leadings.{reals}
use Rattle.machine.specs.Machine.{counting}
use Rattle.machine.specs.Stacks.{forth}
use Rattle.machine.specs.Theorems.{all_lefts}
use Rattle.machine.proofs.Advances.{stacks_mirror}
use Rattle.question.specs.declared.tree.Tree.{Tree}
use Rattle.stacks.specs.declared.marks.Marks.{Marks}
use Rattle.stacks.specs.Memories.{Cells, marks_from, memory_of}
use Rattle.table_machine.specs.declared.outlook.Top.{Top}
use Rattle.table_machine.specs.Fitting.{Fitting}
use Rattle.table_machine.specs.Reals.{table_left, reals_from, FoundHighest}
use Rattle.table_machine.specs.Foreseeing.{GivesUp}
use Rattle.table_machine.proofs.Realness.{turned_forth}

-- the real ones of all that is left
pub all-reals : (n : ℕ) (trees : Tree → sign.Tree) (c : Cells) (m : Marks) → reals (all_lefts (memory_of n trees c) (marks_from n c.slots m)) ≡ reals_from n c m 0
all-reals n trees c m =
    let e : m.done ≡ m.done - 0 = omega arith in
    ap reals (turned_forth (table_left n c m) m.done ∙ ap (forth (table_left n c m) 0) e)

pub none_to_look : (n : ℕ) (c : Cells) (m : Marks) → m.looks ≤ 0 → 0 < m.ahead → GivesUp n c m
none_to_look n c m h a k trees sound = stacks_mirror.gives_up_looking counting n (memory_of n trees c) (marks_from n c.slots m) k sound (omega arith) a

pub none_real : (n : ℕ) (c : Cells) (m : Marks) → m.ahead ≤ 0 → FoundHighest n c m None → GivesUp n c m
none_real n c m a r k trees sound = stacks_mirror.answers_counting n (memory_of n trees c) (marks_from n c.slots m) k sound (omega arith) (all-reals n trees c m ∙ r)

pub none_below : (n : ℕ) (c : Cells) (m : Marks) (t : Top) → Fitting m → m.ahead ≤ 0 → 39 ≤ m.frames → FoundHighest n c m (Some t) → GivesUp n c m
none_below n c m t f a d r k trees sound =
    stacks_mirror.gives_up_depth counting n (memory_of n trees c) (marks_from n c.slots m) k sound (omega arith) r.0 r.1 (all-reals n trees c m ∙ r.2) (omega (arith, f.depth_bound))
