-- The first polynomials suffice: FirstSuffice.antt proves it.
use Rattle.machine.proofs.first_suffice_stands.Goals as goal
use Rattle.machine.proofs.FirstSuffice.{first_suffice}

pub returns : goal.returns
returns c = first_suffice
