-- One link of a chain of tables, and a whole run. Assumes nothing.
use Rattle.std.proofs.Common.{◌≡◌, List, [], ◌∷◌, length, replicate, Result, Ok, Err, IsErr, sym, refl, ap, ◌∙◌}
use mathlib.Core.List.{foldl}
use Rattle.field.specs.declared.sign.Sign.{Sign}
use Rattle.stream.specs.Stage.{Stage as TableStage, Outcome, Gap, Went, upon, outermost_rows}
use Rattle.stream.specs.Step.{Cell as TableCell, stepped, closing}
use Rattle.stream.specs.Chain.{State, pushed_all, pushed, closed, fresh}
use Rattle.stream.proofs.Chain.{run_resumes}
use Rattle.row_stream.specs.declared.stage.Stage.{Stage}
use Rattle.row_stream.specs.declared.leaving.Gap.{Gap as RowGap}
use Rattle.row_stream.specs.Filling.{stages_of}
use Rattle.row_stream.specs.Cells.{cell_of, cells_of, empty_cell}
use Rattle.row_stream.specs.Reached.{reached, ended}

-- what the first table keeps is put back
kept_back : {A : Type 0} (through : Result Unit RowGap) (c : TableCell) (cs : List TableCell) (b : A) →
    upon (reached through cs b) (λ t. Went (record { cells = c ∷ t.cells; sink = t.sink })) ≡ reached through (c ∷ cs) b
kept_back (Ok u) c cs b = refl
kept_back (Err g) c cs b = refl

pub ended_err : {A : Type 0} (r : Result Unit RowGap) (a : A) → IsErr r → ended r a ≡ Gap
ended_err (Ok u) a h = cc
ended_err (Err g) a h = refl

module _ {A : Type 0} (grow : A → List Sign → A) (f : TableStage) (fs : List TableStage) (c : TableCell) (cs : List TableCell) (a : A) (rows : List (List Sign)) where
  -- d: what the first table keeps; rows: those that leave it; through: what pushing them into the others came to
  pub table_gives : (row : List Sign) (d : TableCell) (ds : List TableCell) (b : A) (through : Result Unit RowGap) →
      stepped f c row ≡ Went (record { cell = d; leaving = rows }) → pushed_all (pushed grow fs) cs a rows ≡ reached through ds b →
      pushed grow (f ∷ fs) (c ∷ cs) a row ≡ reached through (d ∷ ds) b
  unfolding pushed
  table_gives row d ds b through s k =
      ap (λ z. upon z (λ q. upon (pushed_all (pushed grow fs) cs a q.leaving) (λ t. Went (record { cells = q.cell ∷ t.cells; sink = t.sink })))) s
      ∙ ap (λ z. upon z (λ t. Went (record { cells = d ∷ t.cells; sink = t.sink }))) k
      ∙ kept_back through d ds b

  -- pushes: what pushing the last rows of the first table into the others came to
  pub end_given : (pushes : Outcome (State A)) → closing f c ≡ Went rows → pushed_all (pushed grow fs) cs a rows ≡ pushes →
      closed grow (f ∷ fs) (c ∷ cs) a ≡ upon pushes (λ t. closed grow fs t.cells t.sink)
  unfolding closed
  end_given pushes s k =
      ap (λ z. upon z (λ out. upon (pushed_all (pushed grow fs) cs a out) (λ t. closed grow fs t.cells t.sink))) s
      ∙ ap (λ z. upon z (λ t. closed grow fs t.cells t.sink)) k

-- pushes: what the push came to
pub run_ends : {A : Type 0} (grow : A → List Sign → A) (fs : List TableStage) (a : A) (row : List Sign) (pushes : Outcome (State A)) → pushed grow fs (fresh fs) a row ≡ pushes →
    upon pushes (λ s. closed grow fs s.cells s.sink) ≡ upon (outermost_rows fs (row ∷ [])) (λ rows. Went (foldl grow a rows))
run_ends grow fs a row pushes given = ap (λ z. upon z (λ s. closed grow fs s.cells s.sink)) (sym given) ∙ run_resumes grow fs a row

-- so many tables that keep nothing
pub cells_cleared : (fs : List Stage) → cells_of (replicate (length fs) empty_cell) ≡ fresh (stages_of fs)
cells_cleared [] = refl
cells_cleared (f ∷ fs) = ap (λ cs. cell_of empty_cell ∷ cs) (cells_cleared fs)
