-- A push: Chain.antt proves it.
use Rattle.stream.proofs.push_stands.Goals as goal
use Rattle.stream.proofs.Chain.{push_advances}

pub returns : goal.returns
returns g c = push_advances
