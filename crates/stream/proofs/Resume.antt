-- A leaf of the machine is answered by a run through the waiting tables. Assumes nothing.
use mathlib.Core.Path.{◌≡◌, refl, sym, ◌∙◌, ap, fun_ext}
use mathlib.Core.Bool.{Bool, true, false}
use mathlib.Core.List.{List, [], ◌∷◌, map, foldl}
use Prim.Native.Nat.{ℕ}
use Rattle.field.specs.declared.sign.Sign.{Sign}
use Rattle.poly.specs.Poly.{Poly}
use Rattle.sign_table.specs.Tree.{Tree, GivenUp}
use Rattle.sign_table.specs.Leadings.{Left, filled_all}
use Rattle.sign_table.specs.Deduce.{deduced, all_known, inserted}
use Rattle.decision.specs.RowAnswer.{on_row}
use Rattle.decision.specs.Eliminate.{over_rows}
use Rattle.machine.specs.Machine.{Frame, Waiting, resume}
use Rattle.stream.specs.Stage.{filled_by, plan_of, Outcome, Gap, Went, upon, went_if, outermost_rows}
use Rattle.stream.specs.Chain.{run}
use Rattle.stream.specs.Fold.{before, joined, with_row}
use Rattle.stream.specs.Resume.{stages_of, answered}
use Rattle.stream.proofs.Plan.{plan_suffices}
use Rattle.stream.proofs.Chain.{run_resumes}
use Rattle.stream.proofs.Fold.{rows_fold}

pub answered-upon : {A B : Type 0} (j : A → B) (finish : B → Tree) (r : Outcome A) → answered finish (upon r (λ a. Went (j a))) ≡ answered (λ a. finish (j a)) r
answered-upon j finish Gap = refl
answered-upon j finish (Went a) = refl

plan-all : (ls : List Left) (m : List (List Sign)) → map (filled_by (plan_of ls)) m ≡ filled_all ls m
plan-all ls m = ap (λ g. map g m) (fun_ext (plan_suffices ls))

-- one waiting table, with the rows that it deduces, and the others after it
table_resumes : (leaf : List (List Sign) → Tree) (frames : List Frame) → ((rows : List (List Sign)) → resume leaf frames rows ≡ answered leaf (outermost_rows (stages_of frames) rows)) →
    (b : Bool) (rows : List (List Sign)) →
    elim b [ true ↦ resume leaf frames rows | false ↦ GivenUp ] ≡ answered leaf (upon (went_if b rows) (outermost_rows (stages_of frames)))
table_resumes leaf frames h true rows = h rows
table_resumes leaf frames h false rows = refl

resume_rows : (leaf : List (List Sign) → Tree) (frames : List Frame) (rows : List (List Sign)) → resume leaf frames rows ≡ answered leaf (outermost_rows (stages_of frames) rows)
unfolding resume outermost_rows
resume_rows leaf [] rows = refl
resume_rows leaf (Waiting ls i l ∷ frames) rows =
    let ws = deduced l rows in
    table_resumes leaf frames (resume_rows leaf frames) (all_known ws) (filled_all ls (inserted i ws))
    ∙ ap (λ m. answered leaf (upon (went_if (all_known ws) m) (outermost_rows (stages_of frames)))) (sym (plan-all ls (inserted i ws)))

pub leaf_streams : {A : Type 0} (grow : A → List Sign → A) (finish : A → Tree) (a : A) (frames : List Frame) (ls : List Left) →
    resume (λ rows. finish (foldl grow a rows)) frames (filled_all ls ([] ∷ [])) ≡ answered finish (run grow (stages_of frames) a (filled_by (plan_of ls) []))
leaf_streams grow finish a frames ls =
    resume_rows (λ rows. finish (foldl grow a rows)) frames (filled_all ls ([] ∷ []))
    ∙ sym (answered-upon (foldl grow a) finish (outermost_rows (stages_of frames) (filled_all ls ([] ∷ []))))
    ∙ ap (λ r. answered finish (upon (outermost_rows (stages_of frames) (r ∷ [])) (λ rows. Went (foldl grow a rows)))) (sym (plan_suffices ls []))
    ∙ ap (answered finish) (sym (run_resumes grow (stages_of frames) a (filled_by (plan_of ls) [])))

pub quantifier_streams : (all : Bool) (n : ℕ) (ps : List Poly) (t : Tree) (frames : List Frame) (ls : List Left) →
    resume (over_rows all n ps t) frames (filled_all ls ([] ∷ [])) ≡
    answered (λ u. u) (run (with_row all n ps t) (stages_of frames) (before all) (filled_by (plan_of ls) []))
quantifier_streams all n ps t frames ls =
    ap (λ leaf. resume leaf frames (filled_all ls ([] ∷ []))) (fun_ext (rows_fold n ps t all))
    ∙ leaf_streams (with_row all n ps t) (λ u. u) (before all) frames ls

-- the same of code that finds in each row what the tree says there
pub judged_streams : (said : List Sign → Tree) (all : Bool) (n : ℕ) (ps : List Poly) (t : Tree) (frames : List Frame) (ls : List Left) → ((row : List Sign) → said row ≡ on_row n ps row t) →
    answered (λ u. u) (run (λ a row. joined all a (said row)) (stages_of frames) (before all) (filled_by (plan_of ls) [])) ≡ resume (over_rows all n ps t) frames (filled_all ls ([] ∷ []))
judged_streams said all n ps t frames ls h =
    ap (λ k. answered (λ u. u) (run (λ a row. joined all a (k row)) (stages_of frames) (before all) (filled_by (plan_of ls) []))) (fun_ext h)
    ∙ sym (quantifier_streams all n ps t frames ls)
