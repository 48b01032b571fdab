-- Questions don't depend on the leaves: Theorems.antt proves it.
use Rattle.machine.proofs.leaves_apart_stands.Goals as goal
use Rattle.machine.proofs.Theorems.{leaves_apart}

pub returns : goal.returns
returns c = leaves_apart
