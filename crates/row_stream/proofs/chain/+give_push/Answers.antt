-- What leaves the first table is pushed into the others.
use Rattle.std.proofs.Common.{ap₂, ◌∙◌}
use Rattle.stream.specs.Chain.{pushed}
use Rattle.row_stream.specs.Signs.{signs_of}
use Rattle.row_stream.specs.Filling.{stage_of, stages_of}
use Rattle.row_stream.specs.Cells.{cell_of, cells_of}
use Rattle.row_stream.proofs.Links.{table_gives}
use Rattle.row_stream.proofs.chain.+give_push.Goals as goal

pub push-returns : goal.push-returns
push-returns g t c =
    let x = rw c.view-2.ensures.values at c.front-others.ensures in
    ap₂ (λ fs cs. pushed g.S.Sink.grown (stages_of fs) (cells_of cs) c.args.sink.now (signs_of c.args.row.now)) c.in-Some.ensures.cases.0 c.in-Some-split_first_mut.ensures.cases.0
    ∙ table_gives g.S.Sink.grown (stage_of c.in-Some.stage.now) (stages_of c.in-Some.outer.now) (cell_of c.in-Some-split_first_mut.cell.now) (cells_of c.in-Some-split_first_mut.kept.now) c.args.sink.now _
    (signs_of c.args.row.now) (cell_of c.in_ok-taken.taken.cell) (cells_of c.give.new.cells) c.give.new.sink c.give.result (rw (← x) at c.in_ok-taken.ensures) (rw c.held.ensures at c.give.ensures)
