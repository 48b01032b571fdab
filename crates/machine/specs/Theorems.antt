-- What is promised of the machine: it makes the table's tree, it ends, and its questions can be counted and collected before any row is known. Assumes nothing.
use Rattle.std.specs.Prelude.{◌≡◌, Bool, true, false, List, [], ◌∷◌, ◌++◌, ℕ, suc, ◌+◌, ◌≤◌, ◌<◌, length, take, get_or}
use Rattle.field.specs.declared.sign.Sign.{Sign}
use Rattle.field.specs.declared.sign.Sign.TheVariants.{Neg, Zero, Pos}
use Rattle.poly.specs.Poly.{Poly, is_zero}
use Rattle.poly.specs.Leading.{leading}
use Rattle.sign_table.specs.Tree.{Tree, GivenUp}
use Rattle.sign_table.specs.Facts.{Fact, Unknown, Is, known}
use Rattle.sign_table.specs.Leadings.{Left, Plain, turned_round, leadings, reals, filled_all}
use Rattle.sign_table.specs.Table.{without, none_left, table}
use Rattle.decision.specs.Asked.{asked, questions}
use Rattle.decision.specs.Eliminate.{over_rows, eliminated}
use Rattle.decision.specs.Decide.{decided, plain}
use Rattle.machine.specs.Machine.{Above, At, Below, State, Returning, Run, building, counting, resume, divisors, divisible, polys_below, fact_below, highest_place, step, steps, start, denote}
use Rattle.machine.specs.Stacks.{Marks, Marked, Kept, Pending, Memory, back, deepest, lefts_back, polys_forth, frames_of, current_of, Stacks, Facing, Holding, state_of, passed, shortened, signed, with_one_fact, entered, lefts_end, polys_end, facts_end, frames_end, looks_left, ahead_count, base_of, done_count, Agree, Fits, Sound, Untouched, LeftWritten}
use Rattle.machine.specs.Counts.{work, questions_open, asks_now, todo, opened, noted, collected_now, collected_after}

-- rows to which the answer is Yes, No or GivenUp
abbrev pub OnlyAnswers : (List (List Sign) → Tree) → Type 0
OnlyAnswers leaf = (rows : List (List Sign)) → questions (leaf rows) ≡ 0

-- qs is ps with more in front
abbrev pub Suffix : List Poly → List Poly → Type 0
Suffix ps qs = (new : List Poly) × (qs ≡ new ++ ps)

-- Every step keeps the tree that a state comes to, the start comes to the table's tree, and after enough steps the machine has it.
pub record MakesTable : Type 0 where
  pub step_keeps : (leaf : List (List Sign) → Tree) (n : ℕ) (s : State) → denote leaf n (step (building leaf) n s) ≡ denote leaf n s
  pub start_denotes : (leaf : List (List Sign) → Tree) (depth n : ℕ) (ps : List Poly) → denote leaf n (start depth ps) ≡ table depth n ps [] (λ rows facts. leaf rows)
  pub finished_denotes : (leaf : List (List Sign) → Tree) (n : ℕ) (t : Tree) → denote leaf n (Returning t []) ≡ t
  pub makes : (leaf : List (List Sign) → Tree) (depth n : ℕ) (ps : List Poly) →
      steps (work (start depth ps)) (building leaf) n (start depth ps) ≡ Returning (table depth n ps [] (λ rows facts. leaf rows)) []

-- Every run ends: each step leaves less to do, until one tree is left and no question is open.
pub record Ends : Type 0 where
  pub step_falls : (run : Run) (n : ℕ) (s : State) → 0 < work s → work (step run n s) < work s
  pub no_work_finished : (s : State) → work s ≡ 0 → (t : Tree) × (s ≡ Returning t [])

-- The questions of a table, and the polynomials that they are about, are the same whatever is made of its rows, so long as that asks nothing.
pub record LeavesApart : Type 0 where
  pub same_questions : (leaf other : List (List Sign) → Tree) → OnlyAnswers leaf → OnlyAnswers other → (depth n : ℕ) (ps : List Poly) →
      questions (table depth n ps [] (λ rows facts. leaf rows)) ≡ questions (table depth n ps [] (λ rows facts. other rows))
  pub same_asked : (leaf other : List (List Sign) → Tree) → OnlyAnswers leaf → OnlyAnswers other → (depth n v : ℕ) (ps qs : List Poly) →
      asked v (table depth n ps [] (λ rows facts. leaf rows)) qs ≡ asked v (table depth n ps [] (λ rows facts. other rows)) qs

-- In any run, a step that asks takes one from the questions still to be asked; at the start these are the table's questions, and at the end there are none.
pub record Counts : Type 0 where
  pub todo_start : (leaf : List (List Sign) → Tree) → OnlyAnswers leaf → (depth n : ℕ) (ps : List Poly) →
      todo n (start depth ps) ≡ questions (table depth n ps [] (λ rows facts. leaf rows))
  pub todo_step : (run : Run) (n : ℕ) (s : State) → asks_now n s + todo n (step run n s) ≡ todo n s
  pub todo_finished : (n : ℕ) (t : Tree) → todo n (Returning t []) ≡ 0
  pub open_step : (run : Run) (n : ℕ) (s : State) → length (questions_open (step run n s)) ≤ asks_now n s + length (questions_open s)
  pub opened_and_todo : (leaf : List (List Sign) → Tree) → OnlyAnswers leaf → (n : ℕ) (s : State) → questions (denote leaf n s) ≡ opened s + todo n s
  pub open_opened : (s : State) → length (questions_open s) ≤ opened s

-- In any run, the polynomials collected on the way are in the end those that the table asks about, in the same order; the list only grows.
pub record Collects : Type 0 where
  pub collected_start : (leaf : List (List Sign) → Tree) → OnlyAnswers leaf → (depth n : ℕ) (ps : List Poly) →
      collected_after n (start depth ps) [] ≡ asked n (table depth n ps [] (λ rows facts. leaf rows)) []
  pub collected_step : (run : Run) (n : ℕ) (s : State) (ps : List Poly) → collected_after n (step run n s) (collected_now n s ps) ≡ collected_after n s ps
  pub collected_finished : (n : ℕ) (t : Tree) (ps : List Poly) → collected_after n (Returning t []) ps ≡ ps
  pub asked_grows : (v : ℕ) (t : Tree) (ps : List Poly) → Suffix ps (asked v t ps)
  pub collected_grows : (n : ℕ) (s : State) (ps : List Poly) → Suffix ps (collected_after n s ps)

-- What is given up stays so to the end; and a tree about more than 12 polynomials is given up where a quantifier is left.
pub record GivesUp : Type 0 where
  pub given_up_stays : (qs : List Bool) → plain (decided qs GivenUp) ≡ GivenUp
  pub thirteenth_asked : (q : Bool) (qs : List Bool) (t : Tree) → 12 < length (asked (suc (length qs)) t []) → plain (decided (q ∷ qs) t) ≡ GivenUp

-- the table that the elimination of a quantifier makes, n variables being left
abbrev pub elimination_start : ℕ → Tree → State
elimination_start n t = start 40 (asked (suc n) t [])

-- A quantifier is eliminated by a run that counts, and then one that builds the tree. With 3,500 questions it is given up; with the 13th polynomial that is
-- collected, whenever that is, the sentence is; and else the second run makes the tree, which asks about those collected.
pub record EliminatesBySteps : Type 0 where
  pub many_questions : (n : ℕ) (all : Bool) (t : Tree) → 3500 ≤ todo n (elimination_start n t) → eliminated n all t ≡ GivenUp
  pub thirteenth_collected : (q : Bool) (qs : List Bool) (t : Tree) (s : State) (seen : List Poly) →
      collected_after (length qs) s seen ≡ collected_after (length qs) (elimination_start (length qs) t) [] → 12 < length seen → plain (decided (q ∷ qs) t) ≡ GivenUp
  pub few_questions : (n : ℕ) (all : Bool) (t : Tree) → length (asked (suc n) t []) ≤ 12 → todo n (elimination_start n t) < 3500 →
      denote (over_rows all (suc n) (asked (suc n) t []) t) n (elimination_start n t) ≡ eliminated n all t
  pub collected_next : (n : ℕ) (all : Bool) (t : Tree) → length (asked (suc n) t []) ≤ 12 → todo n (elimination_start n t) < 3500 →
      collected_after n (elimination_start n t) [] ≡ asked n (eliminated n all t) []
  pub rows_answer : (all : Bool) (v : ℕ) (ps : List Poly) (t : Tree) → OnlyAnswers (over_rows all v ps t)

-- Of more polynomials than may be looked at, one too many is as good as all.
abbrev pub FirstSuffice : Type 0
FirstSuffice = (looks n : ℕ) (ps : List Poly) (ls : List Left) (fs : List Fact) (k : List Left → List Fact → Tree) →
    leadings looks n (take (looks + 1) ps) ls fs k ≡ leadings looks n ps ls fs k

-- A step on arrays: they stand for the machine's next state and stay sound; so many questions were asked, and so were polynomials collected.
pub record Advances (run : Run) (n : ℕ) (before : Memory) (s : Stacks) (after : Memory) (t : Stacks) (asked : ℕ) (collected : List Poly → List Poly) : Type 0 where
  pub sound : Sound after t
  pub next : state_of after t ≡ step run n (state_of before s)
  pub work_falls : work (state_of after t) < work (state_of before s)
  pub todo_falls : asked + todo n (state_of after t) ≡ todo n (state_of before s)
  pub same_collected : (seen : List Poly) → collected_after n (state_of after t) (collected seen) ≡ collected_after n (state_of before s) seen
  pub same_tree : (leaf : List (List Sign) → Tree) → run ≡ building leaf → denote leaf n (state_of after t) ≡ denote leaf n (state_of before s)

-- nothing is collected
abbrev pub nothing_more : List Poly → List Poly
nothing_more seen = seen

-- what is left of all the polynomials of a table that is settled
abbrev pub all_lefts : Memory → Marks → List Left
all_lefts mem m = turned_round (lefts_back mem (base_of m) (done_count m)) []

-- The machine on arrays, step by step. If the cells in use were not written over, and the next ones are as said, then the arrays stand for the machine's next state.
pub record StacksMirror : Type 0 where
  pub begins : (mem : Memory) (ps : List Poly) (p : Poly) (size : ℕ) → polys_forth mem 0 0 size ≡ take 64 ps → Untouched mem (Marked 63 0 0 size p 0 0) →
      let s = Facing (Marked 63 0 0 size p 0 0) 0 in (state_of mem s ≡ start 40 ps) × Sound mem s
  -- the current polynomial is zero
  pub passes_zero : (run : Run) (n : ℕ) (mem new : Memory) (m : Marks) (k : ℕ) → Sound mem (Facing m k) → Agree mem new m k → 0 < looks_left m → 0 < ahead_count m →
      is_zero (current_of m) ≡ true → new.left_at (lefts_end m) ≡ Plain Zero → (p : Poly) → Untouched new (passed p m) → Advances run n mem (Facing m k) new (Facing (passed p m) k) 0 nothing_more
  -- the sign of its leading coefficient is known
  pub passes_known : (run : Run) (n : ℕ) (mem new : Memory) (m : Marks) (k : ℕ) → Sound mem (Facing m k) → Agree mem new m k → 0 < looks_left m → 0 < ahead_count m →
      is_zero (current_of m) ≡ false → (s : Sign) → known n (leading n (current_of m)) (back mem.fact_at (facts_end m)) ≡ Is s → (p : Poly) → LeftWritten new m s p →
      Advances run n mem (Facing m k) new (Facing (signed p s m) k) 0 nothing_more
  -- it is asked for
  pub asks : (run : Run) (n : ℕ) (mem new : Memory) (m : Marks) (k : ℕ) → Sound mem (Facing m k) → Agree mem new m k → 0 < looks_left m → 0 < ahead_count m →
      is_zero (current_of m) ≡ false → known n (leading n (current_of m)) (back mem.fact_at (facts_end m)) ≡ Unknown →
      new.question_at k ≡ Pending m Above → new.fact_at (facts_end m) ≡ record { poly = leading n (current_of m); sign = Pos } → (p : Poly) → LeftWritten new m Pos p →
      Advances run n mem (Facing m k) new (Facing (signed p Pos (with_one_fact m)) (suc k)) 1 nothing_more
  -- no more may be looked at
  pub gives_up_looking : (run : Run) (n : ℕ) (mem : Memory) (m : Marks) (k : ℕ) → Sound mem (Facing m k) → looks_left m ≡ 0 → 0 < ahead_count m →
      Advances run n mem (Facing m k) mem (Holding GivenUp k) 0 nothing_more
  -- all are settled, and none is real
  pub answers : (run : Run) (n : ℕ) (mem : Memory) (m : Marks) (k : ℕ) → Sound mem (Facing m k) → ahead_count m ≡ 0 → reals (all_lefts mem m) ≡ [] →
      Advances run n mem (Facing m k) mem (Holding (resume run.leaf (frames_of mem (frames_end m)) (filled_all (all_lefts mem m) ([] ∷ []))) k) 0 nothing_more
  pub answers_counting : (n : ℕ) (mem : Memory) (m : Marks) (k : ℕ) → Sound mem (Facing m k) → ahead_count m ≡ 0 → reals (all_lefts mem m) ≡ [] →
      Advances counting n mem (Facing m k) mem (Holding GivenUp k) 0 nothing_more
  -- all are settled, and the table below can't be made
  pub gives_up_dividing : (run : Run) (n : ℕ) (mem : Memory) (m : Marks) (k : ℕ) → Sound mem (Facing m k) → ahead_count m ≡ 0 →
      (l : Left) (ls : List Left) → reals (all_lefts mem m) ≡ l ∷ ls → let i = highest_place l ls in
      divisible n (get_or (l ∷ ls) i none_left) (without i (l ∷ ls)) ≡ false → Advances run n mem (Facing m k) mem (Holding GivenUp k) 0 nothing_more
  pub gives_up_depth : (run : Run) (n : ℕ) (mem : Memory) (m : Marks) (k : ℕ) → Sound mem (Facing m k) → ahead_count m ≡ 0 →
      (l : Left) (ls : List Left) → reals (all_lefts mem m) ≡ l ∷ ls → frames_end m ≡ deepest → Advances run n mem (Facing m k) mem (Holding GivenUp k) 0 nothing_more
  -- all are settled, and the table below is begun
  pub enters : (run : Run) (n : ℕ) (mem new : Memory) (m : Marks) (k : ℕ) → Sound mem (Facing m k) → Agree mem new m k → ahead_count m ≡ 0 →
      (l : Left) (ls : List Left) → reals (all_lefts mem m) ≡ l ∷ ls → frames_end m < deepest →
      let i = highest_place l ls in
      let top = get_or (l ∷ ls) i none_left in
      let others = without i (l ∷ ls) in
      divisible n top others ≡ true →
      new.frame_at (frames_end m) ≡ Kept (base_of m) (done_count m) i (length (divisors n top others)) → new.fact_at (facts_end m) ≡ fact_below n top →
      (size : ℕ) → polys_forth new (lefts_end m) 0 size ≡ take 64 (polys_below n top others) → (p : Poly) → Untouched new (entered p size m) →
      Advances run n mem (Facing m k) new (Facing (entered p size m) k) 0 nothing_more
  -- a branch of the last question is finished
  pub returns_above : (run : Run) (n : ℕ) (mem new : Memory) (t : Tree) (m : Marks) (k : ℕ) → Sound mem (Holding t (suc k)) →
      mem.question_at k ≡ Pending m Above → Agree mem new m k → new.question_at k ≡ Pending m (At t) →
      new.fact_at (facts_end m) ≡ record { poly = leading n (current_of m); sign = Zero } →
      Advances run n mem (Holding t (suc k)) new (Facing (shortened (with_one_fact m)) (suc k)) 0 nothing_more
  pub returns_at : (run : Run) (n : ℕ) (mem new : Memory) (t above : Tree) (m : Marks) (k : ℕ) → Sound mem (Holding t (suc k)) →
      mem.question_at k ≡ Pending m (At above) → Agree mem new m k → new.question_at k ≡ Pending m (Below t above) →
      new.fact_at (facts_end m) ≡ record { poly = leading n (current_of m); sign = Neg } → (p : Poly) → LeftWritten new m Neg p →
      Advances run n mem (Holding t (suc k)) new (Facing (signed p Neg (with_one_fact m)) (suc k)) 0 nothing_more
  pub returns_below : (run : Run) (n : ℕ) (mem : Memory) (t at above : Tree) (m : Marks) (k : ℕ) → Sound mem (Holding t (suc k)) →
      mem.question_at k ≡ Pending m (Below at above) →
      Advances run n mem (Holding t (suc k)) mem (Holding (run.join (leading n (current_of m)) t at above) k) 0 (noted n (leading n (current_of m)))
  -- how long the arrays get, and how many polynomials of a table can be real
  pub bounds : (mem : Memory) (m : Marks) (k : ℕ) → Fits mem m k → (polys_end m ≤ 2521) × (lefts_end m ≤ polys_end m) × (frames_end m ≤ deepest) × (facts_end m ≡ frames_end m + k)
  pub room_below : (mem : Memory) (m : Marks) (k : ℕ) → Fits mem m k → frames_end m < deepest → lefts_end m + 64 ≤ 2521
  pub reals_count : (mem : Memory) (m : Marks) (k : ℕ) → Fits mem m k → length (reals (all_lefts mem m)) ≤ 63
  pub divisors_count : (n : ℕ) (l : Left) (ls : List Left) → let i = highest_place l ls in
      length (divisors n (get_or (l ∷ ls) i none_left) (without i (l ∷ ls))) ≡ length (l ∷ ls)
