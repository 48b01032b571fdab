-- The derivative: Theorems.antt proves the laws.
use Rattle.poly.proofs.derivative_stands.Goals as goal
use Rattle.poly.proofs.Theorems.{derivative_laws}

pub returns : goal.returns
returns g c = derivative_laws g.F.RealClosed.field
