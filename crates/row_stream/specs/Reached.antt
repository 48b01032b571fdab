-- What a push, or a close, comes to: whether it went through, and what is kept and the sink then. Assumes nothing.
use Rattle.std.specs.Prelude.{List, Result, Ok, Err}
use Rattle.stream.specs.Stage.{Outcome, Gap, Went}
use Rattle.stream.specs.Step.{Cell as TableCell}
use Rattle.stream.specs.Chain.{State}
use Rattle.row_stream.specs.declared.leaving.Gap.{Gap as RowGap}

abbrev pub reached : {A : Type 0} → Result Unit RowGap → List TableCell → A → Outcome (State A)
reached (Ok u) cs a = Went (record { cells = cs; sink = a })
reached (Err g) cs a = Gap

abbrev pub ended : {A : Type 0} → Result Unit RowGap → A → Outcome A
ended (Ok u) a = Went a
ended (Err g) a = Gap
