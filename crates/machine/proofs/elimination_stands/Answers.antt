-- A quantifier eliminated by steps: Theorems.antt proves it.
use Rattle.machine.proofs.elimination_stands.Goals as goal
use Rattle.machine.proofs.Theorems.{eliminates_by_steps}

pub returns : goal.returns
returns c = eliminates_by_steps
