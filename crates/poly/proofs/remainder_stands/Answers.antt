-- The remainder: Theorems.antt proves the laws.
use Rattle.poly.proofs.remainder_stands.Goals as goal
use Rattle.poly.proofs.Theorems.{remainder_laws}

pub returns : goal.returns
returns g c = remainder_laws g.F.RealClosed.field
