-- Equality: Theorems.antt proves the laws.
use Rattle.poly.proofs.equality_stands.Goals as goal
use Rattle.poly.proofs.Theorems.{equality_laws}

pub returns : goal.returns
returns g c = equality_laws g.F.RealClosed.field
