-- A push gives to fewer tables; the rows pushed so far, and then those that are left, come to the same as all of them.
use Rattle.std.proofs.Common.{◌≡◌, ◌+◌, ◌*◌, length, drop}
use Rattle.stream.specs.Chain.{pushed, pushed_all}
use Rattle.row_stream.specs.Filling.{stage_of, stages_of}
use Rattle.row_stream.specs.Cells.{cells_of}
use Rattle.row_stream.specs.Leaving.{entries_of, entry_rows}
use Rattle.row_stream.specs.Taken.{leaving_rows}
use Rattle.row_stream.proofs.chain.+give_push.Given as goal

abbrev pub decreases-give : goal.decreases-give
decreases-give g l = 2 * length l.stages.now + 1

abbrev pub decreases-push : goal.decreases-push
decreases-push g l = 2 * length l.stages.now

abbrev pub invariant-give-loop-entry : goal.invariant-give-loop-entry
invariant-give-loop-entry g l =
    pushed_all (pushed g.S.Sink.grown (stages_of l.stages)) (cells_of l.initial.cells) l.initial.sink (leaving_rows (stage_of l.stage) l.on_interval l.at_point l.leaving) ≡
    pushed_all (pushed g.S.Sink.grown (stages_of l.stages)) (cells_of l.cells) l.sink (entry_rows (stage_of l.stage) l.on_interval l.at_point (drop l.entry-index (entries_of l.leaving)))
