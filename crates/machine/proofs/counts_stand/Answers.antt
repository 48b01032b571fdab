-- The counts: Theorems.antt proves them.
use Rattle.machine.proofs.counts_stand.Goals as goal
use Rattle.machine.proofs.Theorems.{counts}

pub returns : goal.returns
returns c = counts
