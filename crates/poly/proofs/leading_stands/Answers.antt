-- The leading coefficient: Theorems.antt proves the laws.
use Rattle.poly.proofs.leading_stands.Goals as goal
use Rattle.poly.proofs.Theorems.{leading_laws}

pub returns : goal.returns
returns g c = leading_laws g.F.RealClosed.field
