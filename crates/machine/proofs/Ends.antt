-- Each step leaves less work, and where none is left the machine has finished. Assumes nothing.
use mathlib.Core.Path.{◌≡◌, refl, ap, sym, ◌∙◌, subst}
use mathlib.Core.Bool.{Bool, true, false}
use mathlib.Core.List.{List, [], ◌∷◌}
use Prim.Native.Nat.{ℕ, zero, suc, ◌+◌, ◌*◌, ◌≤◌, ◌<◌}
use native.Mathlib.Omega.{arith}
use lib.ListN.{length, get_or}
use Rattle.field.specs.declared.sign.Sign.{Sign}
use Rattle.field.specs.declared.sign.Sign.TheVariants.{Neg, Zero, Pos}
use Rattle.poly.specs.Poly.{Poly, is_zero}
use Rattle.poly.specs.Leading.{leading}
use Rattle.sign_table.specs.Tree.{Tree}
use Rattle.sign_table.specs.Facts.{Fact, Known, Unknown, Is, known}
use Rattle.sign_table.specs.Leadings.{Left, turned_round, reals}
use Rattle.sign_table.specs.Table.{without, none_left, table}
use Rattle.machine.specs.Machine.{Frame, Waiting, Phase, Settling, Above, At, Below, Question, Open, State, Looking, Returning, Run, building, with_sign, with_zero, assumed, begun, divisors, divisible, polys_below, fact_below, divided, highest_place, settled, looked_at, step, steps, start, denote}
use Rattle.machine.specs.Counts.{cost, phase_cost, questions_cost, work}
use Rattle.machine.proofs.Denotes.{steps_keep, start_denotes, finished_denotes}

pub cost_positive : (e : ℕ) → 0 < cost e
unfolding cost
cost_positive zero = omega arith
cost_positive (suc e) = omega arith

cost_rises : (a d : ℕ) → cost a ≤ cost (d + a)
unfolding cost
cost_rises a zero = let e : cost (0 + a) ≡ cost a = ap cost (omega arith) in omega arith
cost_rises a (suc d) =
    let e : suc d + a ≡ suc (d + a) = omega arith in
    let c : cost (suc d + a) ≡ 4 + 3 * cost (d + a) = ap cost e in
    let h = cost_rises a d in
    omega arith

cost-next : (depth looks : ℕ) → cost (64 * depth + suc looks) ≡ 4 + 3 * cost (64 * depth + looks)
unfolding cost
cost-next depth looks = let e : 64 * depth + suc looks ≡ suc (64 * depth + looks) = omega arith in ap cost e

cost-below : (depth looks : ℕ) → cost (64 * depth + 63) < cost (64 * suc depth + looks)
cost-below depth looks =
    let e : cost (64 * suc depth + looks) ≡ cost (looks + (64 * depth + 64)) = ap cost (omega arith) in
    let h = cost_rises (64 * depth + 64) looks in
    let k = cost-next depth 63 in
    omega arith

by_test : (m : ℕ) (b : Bool) (s t : State) → work s < m → work t < m → work (elim b [ true ↦ s | false ↦ t ]) < m
by_test m true s t h k = h
by_test m false s t h k = k

begun_falls : (depth looks : ℕ) (ps : List Poly) (fs : List Fact) (frames : List Frame) (qs : List Question) →
    work (begun depth ps fs frames qs) < cost (64 * depth + looks) + questions_cost qs
begun_falls zero looks ps fs frames qs = let h = cost_positive (64 * 0 + looks) in omega arith
begun_falls (suc depth) looks ps fs frames qs = let h = cost-below depth looks in omega arith

settled_falls : (leaf : List (List Sign) → Tree) (n depth looks : ℕ) (ls all : List Left) (fs : List Fact) (frames : List Frame) (qs : List Question) →
    work (settled leaf n depth ls all fs frames qs) < cost (64 * depth + looks) + questions_cost qs
settled_falls leaf n depth looks [] all fs frames qs = let h = cost_positive (64 * depth + looks) in omega arith
settled_falls leaf n depth looks (l ∷ ls) all fs frames qs =
    let i = highest_place l ls in
    divided_falls i (get_or (l ∷ ls) i none_left) (without i (l ∷ ls))
  where
    divided_falls : (i : ℕ) (l : Left) (ls : List Left) → work (divided n depth i l ls all fs frames qs) < cost (64 * depth + looks) + questions_cost qs
    divided_falls i l ls =
        let h = cost_positive (64 * depth + looks) in
        by_test (cost (64 * depth + looks) + questions_cost qs) (divisible n l ls) _ _
        (begun_falls depth looks (polys_below n l ls) (fact_below n l ∷ fs) (Waiting all i (length (divisors n l ls)) ∷ frames) qs) (omega arith)

cost-sign : (p : Poly) (s : Sign) (phase : Phase) → phase_cost (with_sign p s phase) ≡ phase_cost phase
cost-sign p Neg (Settling depth looks ps ls fs frames) = refl
cost-sign p Zero (Settling depth looks ps ls fs frames) = refl
cost-sign p Pos (Settling depth looks ps ls fs frames) = refl

cost-assumed : (n : ℕ) (p : Poly) (s : Sign) (phase : Phase) → phase_cost (assumed n p s phase) ≡ phase_cost phase
cost-assumed n p Neg (Settling depth looks ps ls fs frames) = refl
cost-assumed n p Zero (Settling depth looks ps ls fs frames) = refl
cost-assumed n p Pos (Settling depth looks ps ls fs frames) = refl

cost_zero : (phase : Phase) → phase_cost (with_zero phase) ≡ phase_cost phase
cost_zero (Settling depth looks ps ls fs frames) = refl

looked_at_falls : (n : ℕ) (b : Bool) (k : Known) (p : Poly) (phase : Phase) (qs : List Question) →
    work (looked_at n b k p phase qs) < 4 + 3 * phase_cost phase + questions_cost qs
unfolding questions_cost
looked_at_falls n true k p phase qs = let e = cost_zero phase in omega arith
looked_at_falls n false (Is s) p phase qs = let e = cost-sign p s phase in omega arith
looked_at_falls n false Unknown p phase qs = let e = cost-assumed n p Pos phase in omega arith

pub step_falls : (run : Run) (n : ℕ) (s : State) → 0 < work s → work (step run n s) < work s
unfolding questions_cost
step_falls run n (Looking (Settling depth zero [] ls fs frames) qs) h =
    let all = turned_round ls [] in settled_falls run.leaf n depth 0 (reals all) all fs frames qs
step_falls run n (Looking (Settling depth zero (p ∷ ps) ls fs frames) qs) h = let k = cost_positive (64 * depth + 0) in omega arith
step_falls run n (Looking (Settling depth (suc looks) [] ls fs frames) qs) h =
    let all = turned_round ls [] in settled_falls run.leaf n depth (suc looks) (reals all) all fs frames qs
step_falls run n (Looking (Settling depth (suc looks) (p ∷ ps) ls fs frames) qs) h =
    let k = looked_at_falls n (is_zero p) (known n (leading n p) fs) p (Settling depth looks ps ls fs frames) qs in
    let e = cost-next depth looks in
    omega arith
step_falls run n (Returning t []) h = h
step_falls run n (Returning t (Open p Above phase ∷ qs)) h = let e = cost-assumed n p Zero phase in omega arith
step_falls run n (Returning t (Open p (At c) phase ∷ qs)) h = let e = cost-assumed n p Neg phase in omega arith
step_falls run n (Returning t (Open p (Below b c) phase ∷ qs)) h = omega arith

pub no_work_finished : (s : State) → work s ≡ 0 → (t : Tree) × (s ≡ Returning t [])
unfolding questions_cost
no_work_finished (Looking (Settling depth looks ps ls fs frames) qs) e = let h = cost_positive (64 * depth + looks) in absurd (omega arith)
no_work_finished (Returning t []) e = (t, refl)
no_work_finished (Returning t (Open p Above phase ∷ qs)) e = absurd (omega arith)
no_work_finished (Returning t (Open p (At c) phase ∷ qs)) e = absurd (omega arith)
no_work_finished (Returning t (Open p (Below b c) phase ∷ qs)) e = absurd (omega arith)

no_work_stays : (run : Run) (n : ℕ) (s : State) → work s ≡ 0 → work (step run n s) ≡ 0
unfolding questions_cost
no_work_stays run n s e = let d = no_work_finished s e in subst (λ x. work (step run n x) ≡ 0) (sym d.1) refl

steps_finish : (run : Run) (n k : ℕ) (s : State) → work s ≤ k → (t : Tree) × (steps k run n s ≡ Returning t [])
unfolding steps
steps_finish run n zero s h = no_work_finished s (omega arith)
steps_finish run n (suc k) s h = steps_finish run n k (step run n s) (falls (work s) refl)
  where
    falls : (w : ℕ) → work s ≡ w → work (step run n s) ≤ k
    falls zero e = let d = no_work_stays run n s e in omega arith
    falls (suc w) e = let d = step_falls run n s (omega arith) in omega arith

pub makes : (leaf : List (List Sign) → Tree) (depth n : ℕ) (ps : List Poly) →
    steps (work (start depth ps)) (building leaf) n (start depth ps) ≡ Returning (table depth n ps [] (λ rows facts. leaf rows)) []
makes leaf depth n ps =
    let s = start depth ps in
    let k = work s in
    let d = steps_finish (building leaf) n k s (omega arith) in
    let e : d.0 ≡ table depth n ps [] (λ rows facts. leaf rows) =
    sym (finished_denotes leaf n d.0) ∙ (ap (denote leaf n) (sym d.1) ∙ (steps_keep leaf n k s ∙ start_denotes leaf n depth ps)) in
    d.1 ∙ ap (λ t. Returning t []) e
