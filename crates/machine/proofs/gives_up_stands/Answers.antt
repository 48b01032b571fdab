-- What is given up: Theorems.antt proves it.
use Rattle.machine.proofs.gives_up_stands.Goals as goal
use Rattle.machine.proofs.Theorems.{gives_up}

pub returns : goal.returns
returns c = gives_up
