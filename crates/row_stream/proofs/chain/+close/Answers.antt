-- The last rows of the first table are pushed into the others, which then close.
use Rattle.std.proofs.Common.{ap, ap₂, ◌∙◌}
use Rattle.stream.specs.Stage.{upon}
use Rattle.stream.specs.Chain.{closed}
use Rattle.row_stream.specs.Filling.{stage_of, stages_of}
use Rattle.row_stream.specs.Cells.{cell_of, cells_of}
use Rattle.row_stream.specs.Reached.{reached}
use Rattle.row_stream.proofs.Links.{end_given}
use Rattle.row_stream.proofs.chain.+close.Goals as goal

pub returns : goal.returns
returns g t c =
    let outer = stages_of c.in-Some.outer.now in
    let kept = cells_of c.give.new.cells in
    ap₂ (λ fs cs. closed g.S.Sink.grown (stages_of fs) (cells_of cs) c.args.sink.now) c.in-Some.ensures.cases.0 c.in-Some-split_first_mut.ensures.cases.0
    ∙ end_given g.S.Sink.grown (stage_of c.in-Some.stage.now) outer (cell_of c.in-Some-split_first_mut.cell.now) (cells_of c.in-Some-split_first_mut.kept.now) c.args.sink.now _ _
    (c.in_ok-leaving.ensures (stage_of c.in-Some.stage.now)) (rw c.held-held.ensures at c.give.ensures)
    ∙ ap (λ r. upon (reached r kept c.give.new.sink) (λ s. closed g.S.Sink.grown outer s.cells s.sink)) c.in_ok-give.was
    ∙ c.close.ensures
