-- What a stage stands for, and a list of them. Assumes nothing.
use Rattle.std.specs.Prelude.{List, Option, map}
use Rattle.field.specs.declared.sign.Sign.{Sign}
use Rattle.stream.specs.Stage.{Stage as TableStage}
use Rattle.row_stream.specs.AtMost.{values_of}
use Rattle.row_stream.specs.declared.stage.Stage.{Stage}

abbrev pub plan_of : Stage → List (Option Sign)
plan_of f = values_of f.plan

abbrev pub stage_of : Stage → TableStage
stage_of f = record { plan = plan_of f; place = f.place; divisors = f.divisors }

abbrev pub stages_of : List Stage → List TableStage
stages_of fs = map stage_of fs
