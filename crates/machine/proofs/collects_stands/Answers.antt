-- The polynomials collected: Theorems.antt proves it.
use Rattle.machine.proofs.collects_stands.Goals as goal
use Rattle.machine.proofs.Theorems.{collects}

pub returns : goal.returns
returns c = collects
