-- How marks change when a polynomial is settled. Assumes nothing.
use Rattle.std.specs.Prelude.{◌≡◌, ℕ, ◌+◌, ◌-◌, ◌<◌, cond, List, length, ℤ, ◌==◌}
use Rattle.field.specs.declared.sign.Sign.{Sign}
use Rattle.poly.specs.Poly.{Poly}
use Rattle.terms.specs.LeadingTerms.{degree_terms, prefix_terms}
use Rattle.sign_table.specs.Tree as sign
use Rattle.machine.specs.Stacks.{signed, LeftWritten}
use Rattle.question.specs.declared.tree.Tree.{Tree}
use Rattle.stacks.specs.declared.marks.Marks.{Marks}
use Rattle.stacks.specs.Values.{left_in}
use Rattle.stacks.specs.Slots.{slot_in}
use Rattle.stacks.specs.Memories.{Cells, marks_from, memory_of}
use Rattle.table_machine.specs.Told.{front_terms}
use Rattle.table_machine.specs.Cells.{rewritten}

abbrev pub next_marks : List ℤ → Marks → Marks
next_marks slots m = record
    { looks = m.looks - 1; base = m.base; done = m.done + 1; ahead = m.ahead - 1; count = length (slot_in slots (m.base + (m.done + 1))); facts = m.facts; frames = m.frames }

abbrev pub shorter_marks : ℕ → List ℤ → Marks → Marks
shorter_marks n slots m = record {
  looks = m.looks - 1;
  base = m.base;
  done = m.done;
  ahead = m.ahead;
  count = length (prefix_terms n (front_terms slots (m.base + m.done) m.count));
  facts = m.facts;
  frames = m.frames;
}

-- none if the current polynomial is constant in its first variable
abbrev pub left_count : ℕ → List ℤ → Marks → ℕ
left_count n slots m = cond (degree_terms n (front_terms slots (m.base + m.done) m.count) == 0) 0 m.count

-- the leading coefficient of the current polynomial was found to have this sign: the marks then, and what was written of the lefts
pub record Settles (n : ℕ) (c : Cells) (m : Marks) (s : Sign) (lefts : List ℤ) (r : Marks) : Type 0 where
  pub next : Poly
  pub marks : marks_from n c.slots r ≡ signed next s (marks_from n c.slots m)
  pub written : (trees : Tree → sign.Tree) (facts questions : List ℤ) → LeftWritten (memory_of n trees (rewritten c lefts facts questions)) (marks_from n c.slots m) s next
  pub kept : (i : ℕ) → i < m.base + m.done → left_in lefts i ≡ left_in c.lefts i
