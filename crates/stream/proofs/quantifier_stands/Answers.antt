-- A leaf of a quantifier's table: Resume.antt proves it.
use Rattle.stream.proofs.quantifier_stands.Goals as goal
use Rattle.stream.proofs.Resume.{quantifier_streams}

pub returns : goal.returns
returns c = quantifier_streams
