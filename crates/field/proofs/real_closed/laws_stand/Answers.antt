-- Every real closed field has the laws: Laws.antt proves them.
use Rattle.field.proofs.real_closed.laws_stand.Goals as goal
use Rattle.field.proofs.Laws.{laws}

-- src/real_closed.rt:10:1
pub returns : goal.returns
returns g c = laws g.F.RealClosed.field
