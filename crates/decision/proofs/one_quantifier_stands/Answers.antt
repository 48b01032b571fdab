-- One quantifier: Decide.antt proves it.
use Rattle.decision.proofs.one_quantifier_stands.Goals as goal
use Rattle.decision.proofs.Decide.{one-quantifier}

pub returns : goal.returns
returns g c = one-quantifier g.F.RealClosed.field
