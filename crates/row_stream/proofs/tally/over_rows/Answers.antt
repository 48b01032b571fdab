-- The tally's answer where the run goes through, and given up where it doesn't.
use Rattle.std.proofs.Common.{sym, ap, ◌∙◌}
use Rattle.stream.specs.Resume.{answered}
use Rattle.row_stream.specs.Signs.{signs_of}
use Rattle.row_stream.specs.Filling.{stages_of}
use Rattle.row_stream.specs.Joined.{tree_of}
use Rattle.row_stream.specs.Reached.{ended}
use Rattle.row_stream.proofs.Tallies.{tally_run}
use Rattle.row_stream.proofs.tally.over_rows.Goals as goal

pub returns-in-Ok-clause-rows : goal.returns-in-Ok-clause-rows
returns-in-Ok-clause-rows g c =
    ap (λ r. answered (λ t. tree_of t.answer) (ended r c.run.new.sink)) (sym c.in-Ok.is)
    ∙ tally_run g.J.Judge.says c.args.judge c.args.quantifier c.first_answer.result (stages_of c.args.tables.now.stages.now) (signs_of c.args.row.now) c.run.result c.run.new.sink c.first_answer.ensures c.run.ensures.rows

pub returns-clause-rows : goal.returns-clause-rows
returns-clause-rows g c =
    ap (λ r. answered (λ t. tree_of t.answer) (ended r c.run.new.sink)) (sym c.in-Err.is)
    ∙ tally_run g.J.Judge.says c.args.judge c.args.quantifier c.first_answer.result (stages_of c.args.tables.now.stages.now) (signs_of c.args.row.now) c.run.result c.run.new.sink c.first_answer.ensures c.run.ensures.rows
