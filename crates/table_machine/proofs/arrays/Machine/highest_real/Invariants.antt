use Rattle.std.proofs.Common.{◌≤◌}
use Rattle.table_machine.specs.Cells.{cells_of}
use Rattle.table_machine.specs.Reals.{HighestSoFar}
use Rattle.table_machine.proofs.arrays.Machine.highest_real.Given as goal

abbrev pub invariant-loop-i : goal.invariant-loop-i
invariant-loop-i l = HighestSoFar l.self.others.count (cells_of l.self) l.at.marks l.count l.i l.top × (l.count ≤ l.i)
