-- The answers to words: Words.antt proves it.
use Rattle.decision.proofs.answers_stand.Goals as goal
use Rattle.decision.proofs.Words.{answers_right}

pub returns : goal.returns
returns g c = answers_right g.F.RealClosed.field
