-- What is promised of tables that take rows one by one. Assumes nothing.
use Rattle.std.specs.Prelude.{◌≡◌, Bool, ℕ}
use mathlib.Core.List.{List, [], ◌∷◌, foldl}
use Rattle.field.specs.declared.sign.Sign.{Sign}
use Rattle.poly.specs.Poly.{Poly}
use Rattle.sign_table.specs.Tree.{Tree}
use Rattle.sign_table.specs.Leadings.{Left, filled, filled_all}
use Rattle.decision.specs.Eliminate.{over_rows}
use Rattle.machine.specs.Machine.{Frame, resume}
use Rattle.stream.specs.Stage.{Stage, filled_by, plan_of, Went, upon, table_rows, outermost_rows}
use Rattle.stream.specs.Step.{Cell, Clear, Far, flow}
use Rattle.stream.specs.Chain.{pushed, closed, meaning, run}
use Rattle.stream.specs.Fold.{before, with_row}
use Rattle.stream.specs.Resume.{stages_of, answered}

-- The rows that leave a table, as those of the table within it come one by one, are the rows that it deduces from all of them; and there is a gap just where it knows not all.
abbrev pub FlowDeduces : Type 0
FlowDeduces = (f : Stage) (m : List (List Sign)) → flow f (Clear Far) m ≡ table_rows f m

-- Of what is left of polynomials, a table's rows need to know only the plan.
abbrev pub PlanSuffices : Type 0
PlanSuffices = (ls : List Left) (r : List Sign) → filled_by (plan_of ls) r ≡ filled ls r

-- To push a row changes nothing of what the sink will be.
abbrev pub PushAdvances : Type 0 → Type 0
PushAdvances A =
    (grow : A → List Sign → A) (fs : List Stage) (cs : List Cell) (a : A) (r : List Sign) (m : List (List Sign)) →
    meaning grow fs cs a (r ∷ m) ≡ upon (pushed grow fs cs a r) (λ s. meaning grow fs s.cells s.sink m)

-- What closing the tables gives is what the sink will be when no more rows come.
abbrev pub CloseAnswers : Type 0 → Type 0
CloseAnswers A =
    (grow : A → List Sign → A) (fs : List Stage) (cs : List Cell) (a : A) → meaning grow fs cs a [] ≡ closed grow fs cs a

-- A table of one row, run through the chain, gives the sink all the outermost table's rows, in order; and there is a gap just where one of the tables has one.
abbrev pub RunResumes : Type 0 → Type 0
RunResumes A =
    (grow : A → List Sign → A) (fs : List Stage) (a : A) (r : List Sign) →
    run grow fs a r ≡ upon (outermost_rows fs (r ∷ [])) (λ rows. Went (foldl grow a rows))

-- What a tree says in some row, or in every row, is found by going through the rows from the first on.
abbrev pub RowsFold : Type 0
RowsFold =
    (all : Bool) (n : ℕ) (ps : List Poly) (t : Tree) (rows : List (List Sign)) →
    over_rows all n ps t rows ≡ foldl (with_row all n ps t) (before all) rows

-- At a leaf, where none of the polynomials is real, the machine goes on with one row: what is left of them. A run of that row through the waiting tables answers as the machine does.
abbrev pub LeafStreams : Type 0 → Type 0
LeafStreams A =
    (grow : A → List Sign → A) (finish : A → Tree) (a : A) (frames : List Frame) (ls : List Left) →
    resume (λ rows. finish (foldl grow a rows)) frames (filled_all ls ([] ∷ [])) ≡ answered finish (run grow (stages_of frames) a (filled_by (plan_of ls) []))

-- So what a tree says in some row, or in every row, of a quantifier's table needs no row stored.
abbrev pub QuantifierStreams : Type 0
QuantifierStreams =
    (all : Bool) (n : ℕ) (ps : List Poly) (t : Tree) (frames : List Frame) (ls : List Left) →
    resume (over_rows all n ps t) frames (filled_all ls ([] ∷ [])) ≡
    answered (λ u. u) (run (with_row all n ps t) (stages_of frames) (before all) (filled_by (plan_of ls) []))
