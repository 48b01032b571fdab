-- A point that stays comes after the interval that is held.
use Rattle.std.proofs.Common.{rules}
use Rattle.stream.specs.Step.{stepped}
use Rattle.row_stream.proofs.cell.Cell.take_row.Goals as goal

pub returns : goal.returns
unfolding stepped
returns c = rw c.in-Some.is (search rules)
