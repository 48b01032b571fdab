-- Questions asked and still to be asked, and the polynomials collected, from step to step of any run. Assumes nothing.
use mathlib.Core.Path.{◌≡◌, refl, ap, sym, ◌∙◌}
use mathlib.Core.Bool.{Bool, true, false}
use mathlib.Core.List.{List, [], ◌∷◌}
use Prim.Native.Nat.{ℕ, zero, suc, ◌+◌, ◌≤◌}
use native.Mathlib.Omega.{arith}
use lib.ListN.{length}
use Rattle.field.specs.declared.sign.Sign.{Sign}
use Rattle.field.specs.declared.sign.Sign.TheVariants.{Neg, Zero, Pos}
use Rattle.poly.specs.Poly.{Poly, is_zero}
use Rattle.poly.specs.Leading.{leading}
use Rattle.sign_table.specs.Tree.{Tree, GivenUp, Ask}
use Rattle.sign_table.specs.Facts.{Fact, Known, Unknown, Is, known, ask_known}
use Rattle.sign_table.specs.Leadings.{Left, Plain, headed, turned_round, leadings, reals, filled_all}
use Rattle.sign_table.specs.Deduce.{deduced, all_known, inserted}
use Rattle.sign_table.specs.Table.{real_table, table}
use Rattle.decision.specs.Asked.{asked, questions}
use Rattle.machine.specs.Machine.{Frame, Waiting, Phase, Settling, Above, At, Below, Question, Open, State, Looking, Returning, Run, assumed, resume, settled, looked_at, step, start, phase_tree, enclosed, denote}
use Rattle.machine.specs.Counts.{questions_open, asked_if, asks_now, todo_in, todo, opened_in, opened, collected_now, collected_in, collected_after}
use Rattle.machine.specs.Theorems.{OnlyAnswers}
use Rattle.machine.proofs.Settles.{begun_worth, settled_worth}
use Rattle.machine.proofs.Outline.{questions_phase, questions-leaves, asked-leaves}

pub resume-nothing : (frames : List Frame) (rows : List (List Sign)) → resume (λ m. GivenUp) frames rows ≡ GivenUp
unfolding resume
resume-nothing [] rows = refl
resume-nothing (Waiting ls i l ∷ frames) rows = either (all_known (deduced l rows)) (resume-nothing frames (filled_all ls (inserted i (deduced l rows))))
  where
    either : (b : Bool) {t : Tree} → t ≡ GivenUp → (elim b [ true ↦ t | false ↦ GivenUp ]) ≡ GivenUp
    either true h = h
    either false h = refl

-- how many questions a tree asks, with those of the branches still to be explored
abbrev asked_around : ℕ → List Question → Tree → ℕ
asked_around n qs t = questions t + todo_in n qs

todo_answering : (leaf : List (List Sign) → Tree) (n : ℕ) (frames : List Frame) (rows : List (List Sign)) (qs : List Question) →
    todo n (Returning (resume leaf frames rows) qs) ≡ asked_around n qs (resume (λ m. GivenUp) frames rows)
unfolding questions
todo_answering leaf n frames rows qs = let e : questions (resume (λ m. GivenUp) frames rows) ≡ 0 = ap questions (resume-nothing frames rows) in omega arith

looked_at-todo : (n : ℕ) (b : Bool) (k : Known) (p : Poly) (depth looks : ℕ) (ps : List Poly) (ls : List Left) (fs : List Fact) (frames : List Frame) (qs : List Question) →
    let after : List Left → List Fact → Tree = λ all gs. real_table (table depth n) n (reals all) gs (λ rows hs. resume (λ m. GivenUp) frames (filled_all all rows)) in
    asked_if b k + todo n (looked_at n b k p (Settling depth looks ps ls fs frames) qs) ≡
    asked_around n qs (elim b [
      | true ↦ leadings looks n ps (Plain Zero ∷ ls) fs after
      | false ↦ ask_known k (leading n p) fs (λ s gs. headed p s ps ls (λ rs ms. leadings looks n rs ms gs after))
    ])
unfolding todo_in questions
looked_at-todo n true k p depth looks ps ls fs frames qs = omega arith
looked_at-todo n false (Is Neg) p depth looks ps ls fs frames qs = omega arith
looked_at-todo n false (Is Zero) p depth looks ps ls fs frames qs = omega arith
looked_at-todo n false (Is Pos) p depth looks ps ls fs frames qs = omega arith
looked_at-todo n false Unknown p depth looks ps ls fs frames qs = omega arith

settled-todo : (run : Run) (n depth : ℕ) (ls : List Left) (fs : List Fact) (frames : List Frame) (qs : List Question) → todo n (step run n (Looking (Settling depth 0 [] ls fs frames) qs)) ≡ todo n (Looking (Settling depth 0 [] ls fs frames) qs)
unfolding leadings questions
settled-todo run n depth ls fs frames qs =
    let all = turned_round ls [] in
    settled_worth (λ m. GivenUp) run.leaf n (todo n) (asked_around n) (λ phase qs. refl) (λ qs. omega arith) (todo_answering run.leaf n) depth (reals all) all fs frames qs

pub todo_step : (run : Run) (n : ℕ) (s : State) → asks_now n s + todo n (step run n s) ≡ todo n s
unfolding todo_in leadings questions
todo_step run n (Looking (Settling depth zero [] ls fs frames) qs) = let e = settled-todo run n depth ls fs frames qs in omega arith
todo_step run n (Looking (Settling depth zero (p ∷ ps) ls fs frames) qs) = omega arith
todo_step run n (Looking (Settling depth (suc looks) [] ls fs frames) qs) = let e = settled-todo run n depth ls fs frames qs in omega arith
todo_step run n (Looking (Settling depth (suc looks) (p ∷ ps) ls fs frames) qs) =
    looked_at-todo n (is_zero p) (known n (leading n p) fs) p depth looks ps ls fs frames qs
todo_step run n (Returning t []) = refl
todo_step run n (Returning t (Open p Above phase ∷ qs)) = omega arith
todo_step run n (Returning t (Open p (At c) phase ∷ qs)) = omega arith
todo_step run n (Returning t (Open p (Below b c) phase ∷ qs)) = omega arith

pub todo_start : (leaf : List (List Sign) → Tree) → OnlyAnswers leaf → (depth n : ℕ) (ps : List Poly) →
    todo n (start depth ps) ≡ questions (table depth n ps [] (λ rows facts. leaf rows))
unfolding questions todo_in resume
todo_start leaf nothing depth n ps =
    let e : todo n (start depth ps) ≡ questions (table depth n ps [] (λ rows facts. GivenUp)) + 0 =
    begun_worth (λ m. GivenUp) leaf n (todo n) (asked_around n) (λ phase qs. refl) (λ qs. omega arith) (todo_answering leaf n) depth ps [] [] [] in
    let h = questions-leaves leaf nothing depth n ps in
    omega arith

pub todo_finished : (n : ℕ) (t : Tree) → todo n (Returning t []) ≡ 0
unfolding todo_in
todo_finished n t = refl

collected_answering : (leaf : List (List Sign) → Tree) (n : ℕ) (seen : List Poly) (frames : List Frame) (rows : List (List Sign)) (qs : List Question) →
    collected_after n (Returning (resume leaf frames rows) qs) seen ≡ collected_in n qs (asked n (resume (λ m. GivenUp) frames rows) seen)
unfolding asked
collected_answering leaf n seen frames rows qs = sym (ap (λ t. collected_in n qs (asked n t seen)) (resume-nothing frames rows))

looked_at_collected : (n : ℕ) (b : Bool) (k : Known) (p : Poly) (depth looks : ℕ) (ps : List Poly) (ls : List Left) (fs : List Fact) (frames : List Frame) (qs : List Question) (seen : List Poly) →
    let after : List Left → List Fact → Tree = λ all gs. real_table (table depth n) n (reals all) gs (λ rows hs. resume (λ m. GivenUp) frames (filled_all all rows)) in
    collected_after n (looked_at n b k p (Settling depth looks ps ls fs frames) qs) seen ≡
    collected_in n qs (asked n (elim b [
      | true ↦ leadings looks n ps (Plain Zero ∷ ls) fs after
      | false ↦ ask_known k (leading n p) fs (λ s gs. headed p s ps ls (λ rs ms. leadings looks n rs ms gs after))
    ]) seen)
unfolding collected_in asked
looked_at_collected n true k p depth looks ps ls fs frames qs seen = refl
looked_at_collected n false (Is Neg) p depth looks ps ls fs frames qs seen = refl
looked_at_collected n false (Is Zero) p depth looks ps ls fs frames qs seen = refl
looked_at_collected n false (Is Pos) p depth looks ps ls fs frames qs seen = refl
looked_at_collected n false Unknown p depth looks ps ls fs frames qs seen = refl

settled_collected : (run : Run) (n depth : ℕ) (ls : List Left) (fs : List Fact) (frames : List Frame) (qs : List Question) (seen : List Poly) →
    collected_after n (step run n (Looking (Settling depth 0 [] ls fs frames) qs)) seen ≡ collected_after n (Looking (Settling depth 0 [] ls fs frames) qs) seen
unfolding leadings asked
settled_collected run n depth ls fs frames qs seen =
    let all = turned_round ls [] in
    settled_worth (λ m. GivenUp) run.leaf n (λ s. collected_after n s seen) (λ qs t. collected_in n qs (asked n t seen)) (λ phase qs. refl) (λ qs. refl)
    (collected_answering run.leaf n seen) depth (reals all) all fs frames qs

pub collected_step : (run : Run) (n : ℕ) (s : State) (ps : List Poly) → collected_after n (step run n s) (collected_now n s ps) ≡ collected_after n s ps
unfolding collected_in leadings asked
collected_step run n (Looking (Settling depth zero [] ls fs frames) qs) seen = settled_collected run n depth ls fs frames qs seen
collected_step run n (Looking (Settling depth zero (p ∷ ps) ls fs frames) qs) seen = refl
collected_step run n (Looking (Settling depth (suc looks) [] ls fs frames) qs) seen = settled_collected run n depth ls fs frames qs seen
collected_step run n (Looking (Settling depth (suc looks) (p ∷ ps) ls fs frames) qs) seen =
    looked_at_collected n (is_zero p) (known n (leading n p) fs) p depth looks ps ls fs frames qs seen
collected_step run n (Returning t []) seen = refl
collected_step run n (Returning t (Open p Above phase ∷ qs)) seen = refl
collected_step run n (Returning t (Open p (At c) phase ∷ qs)) seen = refl
collected_step run n (Returning t (Open p (Below b c) phase ∷ qs)) seen = refl

pub collected_start : (leaf : List (List Sign) → Tree) → OnlyAnswers leaf → (depth n : ℕ) (ps : List Poly) →
    collected_after n (start depth ps) [] ≡ asked n (table depth n ps [] (λ rows facts. leaf rows)) []
unfolding asked collected_in resume
collected_start leaf nothing depth n ps =
    begun_worth (λ m. GivenUp) leaf n (λ s. collected_after n s []) (λ qs t. collected_in n qs (asked n t [])) (λ phase qs. refl) (λ qs. refl) (collected_answering leaf n []) depth ps [] [] []
    ∙ sym (asked-leaves leaf nothing depth n n ps [])

pub collected_finished : (n : ℕ) (t : Tree) (ps : List Poly) → collected_after n (Returning t []) ps ≡ ps
unfolding collected_in
collected_finished n t ps = refl

same_open : (leaf : List (List Sign) → Tree) (n depth : ℕ) (ls : List Left) (fs : List Fact) (frames : List Frame) (qs : List Question) →
    let all = turned_round ls [] in questions_open (settled leaf n depth (reals all) all fs frames qs) ≡ qs
same_open leaf n depth ls fs frames qs =
    let all = turned_round ls [] in
    settled_worth leaf leaf n questions_open (λ qs t. qs) (λ phase qs. refl) (λ qs. refl) (λ frames rows qs. refl) depth (reals all) all fs frames qs

looked_at_open : (n : ℕ) (b : Bool) (k : Known) (p : Poly) (phase : Phase) (qs : List Question) → length (questions_open (looked_at n b k p phase qs)) ≡ asked_if b k + length qs
looked_at_open n true k p phase qs = omega arith
looked_at_open n false (Is s) p phase qs = omega arith
looked_at_open n false Unknown p phase qs = omega arith

pub open_step : (run : Run) (n : ℕ) (s : State) → length (questions_open (step run n s)) ≤ asks_now n s + length (questions_open s)
open_step run n (Looking (Settling depth zero [] ls fs frames) qs) = let e = ap length (same_open run.leaf n depth ls fs frames qs) in omega arith
open_step run n (Looking (Settling depth zero (p ∷ ps) ls fs frames) qs) = omega arith
open_step run n (Looking (Settling depth (suc looks) [] ls fs frames) qs) = let e = ap length (same_open run.leaf n depth ls fs frames qs) in omega arith
open_step run n (Looking (Settling depth (suc looks) (p ∷ ps) ls fs frames) qs) =
    let e = looked_at_open n (is_zero p) (known n (leading n p) fs) p (Settling depth looks ps ls fs frames) qs in omega arith
open_step run n (Returning t []) = omega arith
open_step run n (Returning t (Open p Above phase ∷ qs)) = omega arith
open_step run n (Returning t (Open p (At c) phase ∷ qs)) = omega arith
open_step run n (Returning t (Open p (Below b c) phase ∷ qs)) = omega arith

open_opened_in : (qs : List Question) → length qs ≤ opened_in qs
unfolding opened_in
open_opened_in [] = omega arith
open_opened_in (Open p e phase ∷ qs) = let h = open_opened_in qs in omega arith

pub open_opened : (s : State) → length (questions_open s) ≤ opened s
open_opened (Looking phase qs) = open_opened_in qs
open_opened (Returning t qs) = let h = open_opened_in qs in omega arith

module _ (leaf : List (List Sign) → Tree) (answers : OnlyAnswers leaf) (n : ℕ) where
  questions-enclosed : (qs : List Question) (t : Tree) → questions (enclosed leaf n qs t) ≡ questions t + opened_in qs + todo_in n qs
  unfolding enclosed opened_in todo_in questions
  questions-enclosed [] t = omega arith
  questions-enclosed (Open p Above phase ∷ qs) t =
      let below = questions_phase leaf answers n (assumed n p Neg phase) in
      let at = questions_phase leaf answers n (assumed n p Zero phase) in
      let h = questions-enclosed qs (Ask (leading n p) (phase_tree leaf n (assumed n p Neg phase)) (phase_tree leaf n (assumed n p Zero phase)) t) in
      omega arith
  questions-enclosed (Open p (At c) phase ∷ qs) t =
      let below = questions_phase leaf answers n (assumed n p Neg phase) in
      let h = questions-enclosed qs (Ask (leading n p) (phase_tree leaf n (assumed n p Neg phase)) t c) in
      omega arith
  questions-enclosed (Open p (Below b c) phase ∷ qs) t =
      let h = questions-enclosed qs (Ask (leading n p) t b c) in
      omega arith

  pub opened_and_todo : (s : State) → questions (denote leaf n s) ≡ opened s + todo n s
  opened_and_todo (Looking phase qs) =
      let e = questions_phase leaf answers n phase in
      let h = questions-enclosed qs (phase_tree leaf n phase) in
      omega arith
  opened_and_todo (Returning t qs) = let h = questions-enclosed qs t in omega arith
