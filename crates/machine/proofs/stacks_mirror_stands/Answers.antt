-- The machine on arrays: Advances.antt proves it.
use Rattle.machine.proofs.stacks_mirror_stands.Goals as goal
use Rattle.machine.proofs.Advances.{stacks_mirror}

pub returns : goal.returns
returns c = stacks_mirror
