-- The main theorem: Decide.antt proves it.
use Rattle.decision.proofs.whole_stands.Goals as goal
use Rattle.decision.proofs.Decide.{main}

pub returns : goal.returns
returns g c = main g.F.RealClosed.field
