-- What a step on arrays does to the work and the questions that are left, and to the polynomials collected. Assumes nothing.
use mathlib.Core.Path.{◌≡◌, refl, ap, ap₂, sym, ◌∙◌, subst}
use mathlib.Core.List.{List, [], ◌∷◌}
use Prim.Native.Nat.{ℕ, zero, suc, ◌+◌, ◌*◌, ◌-◌, ◌<◌}
use native.Mathlib.Omega.{arith}
use Rattle.poly.specs.Poly.{Poly, is_zero}
use Rattle.poly.specs.Leading.{leading}
use Rattle.sign_table.specs.Tree.{Tree, GivenUp}
use Rattle.sign_table.specs.Facts.{known}
use Rattle.sign_table.specs.Leadings.{filled_all}
use Rattle.machine.specs.Machine.{Branch, Above, At, Below, Question, Returning, Run, counting, step, denote}
use Rattle.machine.specs.Counts.{questions_cost, work, asked_if, asks_now, todo, noted, collected_now, collected_after}
use Rattle.machine.specs.Stacks.{Marks, Marked, QuestionCell, Pending, Memory, back, frames_of, current_of, question_of, questions_of, Stacks, Facing, Holding, state_of, facts_end, frames_end, looks_left, ahead_count}
use Rattle.machine.specs.Theorems.{Advances, nothing_more, all_lefts, StacksMirror}
use Rattle.machine.proofs.Denotes.{step_keeps}
use Rattle.machine.proofs.Ends.{cost_positive, step_falls}
use Rattle.machine.proofs.Counting.{resume-nothing, todo_step, collected_step}
use Rattle.machine.proofs.StackSteps.{Mirrors, passes_zero, passes_known, asks, gives_up_looking, answers, gives_up_dividing, gives_up_depth, enters, returns_above, returns_at, returns_below, begins}
use Rattle.machine.proofs.Bounds.{bounds, room_below, reals_count, divisors_count}

advance : (run : Run) (n : ℕ) (before : Memory) (s : Stacks) (after : Memory) (t : Stacks) (asked : ℕ) (collected : List Poly → List Poly) → 0 < work (state_of before s) →
    asks_now n (state_of before s) ≡ asked → ((seen : List Poly) → collected_now n (state_of before s) seen ≡ collected seen) → Mirrors run n before s after t →
    Advances run n before s after t asked collected
advance run n before s after t asked collected some asks-so collects-so mirrors = record {
  sound = mirrors.1;
  next = mirrors.0;
  work_falls = rw mirrors.0 (step_falls run n (state_of before s) some);
  todo_falls = ap₂ ◌+◌ (sym asks-so) (ap (todo n) mirrors.0) ∙ todo_step run n (state_of before s);
  same_collected = λ seen. ap₂ (λ u ps. collected_after n u ps) mirrors.0 (sym (collects-so seen)) ∙ collected_step run n (state_of before s) seen;
  same_tree = λ leaf e. ap (denote leaf n) (mirrors.0 ∙ ap (λ r. step r n (state_of before s)) e) ∙ step_keeps leaf n (state_of before s);
}

-- there is work at any marks, and where a question is open
facing-work : (mem : Memory) (m : Marks) (k : ℕ) → 0 < work (state_of mem (Facing m k))
facing-work mem (Marked looks base done ahead p facts frames) k = let h = cost_positive (64 * (39 - frames) + looks) in omega arith

holding_work : (mem : Memory) (t : Tree) (k : ℕ) → 0 < work (state_of mem (Holding t (suc k)))
unfolding back
holding_work mem t k = open_work (mem.question_at k) (questions_of mem k)
  where
    open_work : (c : QuestionCell) (qs : List Question) → 0 < questions_cost (question_of mem c ∷ qs)
    open_work (Pending m Above) qs = unfold questions_cost in omega arith
    open_work (Pending m (At c)) qs = unfold questions_cost in omega arith
    open_work (Pending m (Below b c)) qs = unfold questions_cost in omega arith

facing-asks : (n : ℕ) (mem : Memory) (m : Marks) (k : ℕ) → 0 < looks_left m → 0 < ahead_count m →
    asks_now n (state_of mem (Facing m k)) ≡ asked_if (is_zero (current_of m)) (known n (leading n (current_of m)) (back mem.fact_at (facts_end m)))
facing-asks n mem (Marked zero base done ahead p facts frames) k look some = absurd (omega arith)
facing-asks n mem (Marked (suc looks) base done zero p facts frames) k look some = absurd (omega arith)
facing-asks n mem (Marked (suc looks) base done (suc ahead) p facts frames) k look some = refl

no_looks-asks : (n : ℕ) (mem : Memory) (m : Marks) (k : ℕ) → looks_left m ≡ 0 → asks_now n (state_of mem (Facing m k)) ≡ 0
no_looks-asks n mem (Marked zero base done ahead p facts frames) k none = refl
no_looks-asks n mem (Marked (suc looks) base done ahead p facts frames) k none = absurd (omega arith)

settled-asks : (n : ℕ) (mem : Memory) (m : Marks) (k : ℕ) → ahead_count m ≡ 0 → asks_now n (state_of mem (Facing m k)) ≡ 0
settled-asks n mem (Marked zero base done zero p facts frames) k none = refl
settled-asks n mem (Marked (suc looks) base done zero p facts frames) k none = refl
settled-asks n mem (Marked zero base done (suc ahead) p facts frames) k none = absurd (omega arith)
settled-asks n mem (Marked (suc looks) base done (suc ahead) p facts frames) k none = absurd (omega arith)

-- what the last question, at this branch, collects
holding_collects : (n : ℕ) (mem : Memory) (t : Tree) (k : ℕ) (m : Marks) (e : Branch) (collected : List Poly → List Poly) → mem.question_at k ≡ Pending m e →
    ((qs : List Question) (seen : List Poly) → collected_now n (Returning t (question_of mem (Pending m e) ∷ qs)) seen ≡ collected seen) →
    (seen : List Poly) → collected_now n (state_of mem (Holding t (suc k))) seen ≡ collected seen
unfolding back
holding_collects n mem t k m e collected was h seen =
    ap (λ c. collected_now n (Returning t (question_of mem c ∷ questions_of mem k)) seen) was ∙ h (questions_of mem k) seen

-- where all polynomials are settled, or no more may be looked at
quiet : (run : Run) (n : ℕ) (mem : Memory) (m : Marks) (k : ℕ) (after : Memory) (t : Stacks) → asks_now n (state_of mem (Facing m k)) ≡ 0 → Mirrors run n mem (Facing m k) after t →
    Advances run n mem (Facing m k) after t 0 nothing_more
quiet run n mem m k after t e mirrors = advance run n mem (Facing m k) after t 0 nothing_more (facing-work mem m k) e (λ seen. refl) mirrors

pub stacks_mirror : StacksMirror
stacks_mirror = record {
  begins = begins;
  passes_zero = λ run n mem new m k sound agree look some zero-poly left p untouched.
      quiet run n mem m k new _ (facing-asks n mem m k look some ∙ ap (λ b. asked_if b (known n (leading n (current_of m)) (back mem.fact_at (facts_end m)))) zero-poly)
      (passes_zero run n mem new m k sound agree look some zero-poly left p untouched);
  passes_known = λ run n mem new m k sound agree look some not_zero s e p left.
      quiet run n mem m k new _ (facing-asks n mem m k look some ∙ ap₂ asked_if not_zero e) (passes_known run n mem new m k sound agree look some not_zero s e p left);
  asks = λ run n mem new m k sound agree look some not_zero e question fact p left.
      advance run n mem (Facing m k) new _ 1 nothing_more (facing-work mem m k) (facing-asks n mem m k look some ∙ ap₂ asked_if not_zero e) (λ seen. refl)
      (asks run n mem new m k sound agree look some not_zero e question fact p left);
  gives_up_looking = λ run n mem m k sound none some. quiet run n mem m k mem _ (no_looks-asks n mem m k none) (gives_up_looking run n mem m k sound none some);
  answers = λ run n mem m k sound none e. quiet run n mem m k mem _ (settled-asks n mem m k none) (answers run n mem m k sound none e);
  answers_counting = λ n mem m k sound none e.
      quiet counting n mem m k mem (Holding GivenUp k) (settled-asks n mem m k none)
      (subst (λ t. Mirrors counting n mem (Facing m k) mem (Holding t k)) (resume-nothing (frames_of mem (frames_end m)) (filled_all (all_lefts mem m) ([] ∷ []))) (answers counting n mem m k sound none e));
  gives_up_dividing = λ run n mem m k sound none l ls real e. quiet run n mem m k mem _ (settled-asks n mem m k none) (gives_up_dividing run n mem m k sound none l ls real e);
  gives_up_depth = λ run n mem m k sound none l ls real e. quiet run n mem m k mem _ (settled-asks n mem m k none) (gives_up_depth run n mem m k sound none l ls real e);
  enters = λ run n mem new m k sound agree none l ls real deep fine frame fact size ps p untouched.
      quiet run n mem m k new _ (settled-asks n mem m k none) (enters run n mem m k sound none l ls real new agree deep fine frame fact size ps p untouched);
  returns_above = λ run n mem new t m k sound was agree now fact.
      advance run n mem (Holding t (suc k)) new _ 0 nothing_more (holding_work mem t k) refl (holding_collects n mem t k m Above nothing_more was (λ qs seen. refl))
      (returns_above run n mem new t m k sound was agree now fact);
  returns_at = λ run n mem new t above m k sound was agree now fact p left.
      advance run n mem (Holding t (suc k)) new _ 0 nothing_more (holding_work mem t k) refl (holding_collects n mem t k m (At above) nothing_more was (λ qs seen. refl))
      (returns_at run n mem new t above m k sound was agree now fact p left);
  returns_below = λ run n mem t at above m k sound was.
      advance run n mem (Holding t (suc k)) mem _ 0 (noted n (leading n (current_of m))) (holding_work mem t k) refl
      (holding_collects n mem t k m (Below at above) (noted n (leading n (current_of m))) was (λ qs seen. refl)) (returns_below run n mem t at above m k sound was);
  bounds = bounds;
  room_below = room_below;
  reals_count = reals_count;
  divisors_count = divisors_count;
}
