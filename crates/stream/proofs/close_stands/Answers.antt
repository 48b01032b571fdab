-- A close: Chain.antt proves it.
use Rattle.stream.proofs.close_stands.Goals as goal
use Rattle.stream.proofs.Chain.{close-answers}

pub returns : goal.returns
returns g c = close-answers
