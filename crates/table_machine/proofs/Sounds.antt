-- Sound arrays fit. Assumes nothing.
use Rattle.std.proofs.Common.{◌≡◌, ℕ, suc, ◌+◌, ◌-◌, ◌<◌, ◌≤◌, subst, arith}
use Rattle.sign_table.specs.Tree as sign
use Rattle.machine.specs.Stacks as stack
use Rattle.machine.specs.Stacks.{Sound, Fits}
use Rattle.question.specs.declared.tree.Tree.{Tree}
use Rattle.stacks.specs.declared.marks.Marks.{Marks}
use Rattle.stacks.specs.Values.{question_in}
use Rattle.stacks.specs.Memories.{Cells, marks_from, memory_of}
use Rattle.table_machine.specs.Fitting.{Fitting}
use Rattle.table_machine.specs.Moving.{Room, Askable}
use Rattle.table_machine.specs.SoundLaws.{Enough, SoundLaws}

fitting : (n : ℕ) (trees : Tree → sign.Tree) (c : Cells) (m : Marks) (k : ℕ) → Fits (memory_of n trees c) (marks_from n c.slots m) k → Fitting m
fitting n trees c m k f = record { looks_bound = f.looks_bound; size_bound = f.size_bound; base_bound = f.base_bound; depth_bound = f.depth_bound }

facing_room : (n : ℕ) (trees : Tree → sign.Tree) (c : Cells) (m : Marks) (pending : ℕ) → Enough c → pending < 3500 →
    Sound (memory_of n trees c) (stack.Facing (marks_from n c.slots m) pending) → Room c m pending
facing_room n trees c m pending e l s =
    let count : m.facts ≡ m.frames + pending = s.0.facts_count in
    let deep : m.frames ≤ 39 = s.0.depth_bound in
    record { lefts = e.lefts; facts = omega (arith, e.facts); questions = omega (arith, e.questions); few = omega arith; fewer = omega arith }

holding_asks : (n : ℕ) (trees : Tree → sign.Tree) (c : Cells) (t : sign.Tree) (k : ℕ) → Enough c → k < 3500 →
    Sound (memory_of n trees c) (stack.Holding t (suc k)) → Askable c (question_in c.questions k).marks
holding_asks n trees c t k e l s =
    let m = (question_in c.questions k).marks in
    let f : Fits (memory_of n trees c) (marks_from n c.slots m) k = s.0.fits in
    let count : m.facts ≡ m.frames + k = f.facts_count in
    let deep : m.frames ≤ 39 = f.depth_bound in
    record { fits = fitting n trees c m k f; looks = s.0.looks; ahead = s.0.ahead; facts = omega (arith, e.facts); few = omega arith }

pub sound_laws : SoundLaws
sound_laws =
    record {
      facing_fits = λ n trees c m pending s. fitting n trees c m pending s.0;
      facing_room = facing_room;
      holding_asks = λ n trees c t pending e l h s.
          let j : pending ≡ suc (pending - 1) = omega arith in
          holding_asks n trees c t (pending - 1) e (omega arith) (subst (λ k. Sound (memory_of n trees c) (stack.Holding t k)) j s);
    }
