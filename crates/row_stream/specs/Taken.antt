-- What a table does with one row, as the code holds it. Assumes nothing.
use Rattle.std.specs.Prelude.{◌≡◌, true, List, Option, Result, Ok, Err}
use Rattle.field.specs.declared.sign.Sign.{Sign}
use Rattle.stream.specs.Stage.{Stage as TableStage, Outcome, Gap, Went}
use Rattle.stream.specs.Step.{Stepped, point_taken, closing}
use Rattle.row_stream.specs.declared.cell.Side.{Side}
use Rattle.row_stream.specs.declared.cell.Cell.{Cell}
use Rattle.row_stream.specs.declared.at_most.AtMost.{AtMost}
use Rattle.row_stream.specs.declared.taken.Taken.{Taken}
use Rattle.row_stream.specs.declared.leaving.Entry.{Entry}
use Rattle.row_stream.specs.declared.leaving.Gap.{Gap as RowGap}
use Rattle.row_stream.specs.Known.{known_of}
use Rattle.row_stream.specs.Cells.{side_of, cell_of, held_of}
use Rattle.row_stream.specs.Leaving.{entries_of, entry_rows}

-- o, x: the others' signs on the interval and at the point, in the row that came
abbrev pub leaving_rows : TableStage → List Sign → List Sign → AtMost Entry 4 → List (List Sign)
leaving_rows f o x l = entry_rows f o x (entries_of l)

abbrev pub taken_of : TableStage → List Sign → List Sign → Result Taken RowGap → Outcome Stepped
taken_of f o x (Err g) = Gap
taken_of f o x (Ok r) = Went (record { cell = cell_of r.cell; leaving = leaving_rows f o x r.leaving })

abbrev pub PointTakenAs : Side → List Sign → Option Sign → List Sign → Result Taken RowGap → Type 0
PointTakenAs side o p x r = (f : TableStage) → point_taken true f (side_of side) o (known_of p) x ≡ taken_of f o x r

-- the rows at the end are all of intervals
abbrev pub end_of : TableStage → List Sign → Result (AtMost Entry 4) RowGap → Outcome (List (List Sign))
end_of f o (Err g) = Gap
end_of f o (Ok l) = Went (leaving_rows f o o l)

abbrev pub EndTakenAs : Cell → Result (AtMost Entry 4) RowGap → Type 0
EndTakenAs cell r = (f : TableStage) → closing f (cell_of cell) ≡ end_of f (held_of cell) r
