-- Every run ends: Theorems.antt proves it.
use Rattle.machine.proofs.ends_stands.Goals as goal
use Rattle.machine.proofs.Theorems.{machine_ends}

pub returns : goal.returns
returns c = machine_ends
