-- A push into empty tables, and a close, are a run.
use Rattle.std.proofs.Common.{◌≡◌, rules, length, replicate, sym, ap, ◌∙◌}
use Rattle.stream.specs.Stage.{upon}
use Rattle.stream.specs.Chain.{closed, fresh}
use Rattle.row_stream.specs.Signs.{signs_of}
use Rattle.row_stream.specs.Filling.{stages_of}
use Rattle.row_stream.specs.Cells.{cells_of, empty_cell}
use Rattle.row_stream.specs.Reached.{reached}
use Rattle.row_stream.proofs.Links.{ended_err, run_ends, cells_cleared}
use Rattle.row_stream.proofs.chain.run.Goals as goal

pub returns-in_err-push-clause-rows : goal.returns-in_err-push-clause-rows
returns-in_err-push-clause-rows g c =
    let stages = c.args.tables.now.stages.now in
    let fs = stages_of stages in
    let cleared : c.clear.new.cells ≡ replicate (length stages) empty_cell = search rules in
    let empty : cells_of c.clear.new.cells ≡ fresh fs = ap cells_of cleared ∙ cells_cleared stages in
    ended_err c.from_residual.result c.push.new.sink c.from_residual.ensures.0
    ∙ ap (λ r. upon (reached r (cells_of c.push.new.cells) c.push.new.sink) (λ s. closed g.S.Sink.grown fs s.cells s.sink)) (sym c.in_err-push.was)
    ∙ run_ends g.S.Sink.grown fs c.args.sink.now (signs_of c.args.row.now) _ (rw empty at c.push.ensures)

pub returns-clause-rows : goal.returns-clause-rows
returns-clause-rows g c =
    let stages = c.args.tables.now.stages.now in
    let fs = stages_of stages in
    let cleared : c.clear.new.cells ≡ replicate (length stages) empty_cell = search rules in
    let empty : cells_of c.clear.new.cells ≡ fresh fs = ap cells_of cleared ∙ cells_cleared stages in
    sym c.close.ensures
    ∙ ap (λ r. upon (reached r (cells_of c.push.new.cells) c.push.new.sink) (λ s. closed g.S.Sink.grown fs s.cells s.sink)) (sym c.in_ok-push.was)
    ∙ run_ends g.S.Sink.grown fs c.args.sink.now (signs_of c.args.row.now) _ (rw empty at c.push.ensures)
