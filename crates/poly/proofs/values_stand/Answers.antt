-- The values: Theorems.antt proves the laws.
use Rattle.poly.proofs.values_stand.Goals as goal
use Rattle.poly.proofs.Theorems.{value_laws}

pub returns : goal.returns
returns g c = value_laws g.F.RealClosed.field
