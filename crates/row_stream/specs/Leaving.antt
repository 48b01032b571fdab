-- The rows that leave a table at once, each by p's sign and where it is. Assumes nothing.
use Rattle.std.specs.Prelude.{Bool, cond, List, [], ◌∷◌, map, Option, Some, None, Result, Ok, Err}
use Rattle.field.specs.declared.sign.Sign.{Sign}
use Rattle.field.specs.declared.sign.Sign.TheVariants.{Zero}
use Rattle.field.specs.Sign.{flip}
use Rattle.sign_table.specs.Facts.{Known}
use Rattle.sign_table.specs.Deduce.{the_sign}
use Rattle.stream.specs.declared.way.Way.{Way}
use Rattle.stream.specs.declared.way.Way.TheVariants.{Stays, Crosses}
use Rattle.stream.specs.Stage.{Stage as TableStage, Outcome, Gap, Went}
use Rattle.stream.specs.Step.{handed_on}
use Rattle.row_stream.specs.declared.leaving.Entry.{Entry}
use Rattle.row_stream.specs.declared.leaving.Entry.TheVariants.{Interval, Point}
use Rattle.row_stream.specs.declared.leaving.Gap.{Gap as RowGap}
use Rattle.row_stream.specs.declared.at_most.AtMost.{AtMost}
use Rattle.row_stream.specs.AtMost.{values_of}

abbrev pub entries_of : AtMost Entry 4 → List Entry
entries_of l = values_of l

abbrev pub leaving_of : Result (AtMost Entry 4) RowGap → Outcome (List Entry)
leaving_of (Err g) = Gap
leaving_of (Ok l) = Went (entries_of l)

-- the row, where the others' signs are o on the interval and x at the point
abbrev pub entry_row : TableStage → List Sign → List Sign → Entry → List Sign
entry_row f o x (Interval s) = handed_on f s o
entry_row f o x (Point s) = handed_on f s x

abbrev pub entry_rows : TableStage → List Sign → List Sign → List Entry → List (List Sign)
entry_rows f o x es = map (entry_row f o x) es

abbrev pub entries_to_point : Option Way → Known → Bool → Outcome (List Entry)
entries_to_point (Some (Stays s)) p stays = Went (cond stays (Interval s ∷ Point (the_sign p) ∷ []) [])
entries_to_point (Some (Crosses s)) p stays = Went (Interval s ∷ Interval Zero ∷ cond stays (Interval (flip s) ∷ Point (the_sign p) ∷ []) [])
entries_to_point None p stays = cond stays Gap (Went [])

abbrev pub entries_to_end : Option Way → Outcome (List Entry)
entries_to_end (Some (Stays s)) = Went (Interval s ∷ [])
entries_to_end (Some (Crosses s)) = Went (Interval s ∷ Interval Zero ∷ Interval (flip s) ∷ [])
entries_to_end None = Gap
