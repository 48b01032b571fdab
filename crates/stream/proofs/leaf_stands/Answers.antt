-- A leaf of the machine: Resume.antt proves it.
use Rattle.stream.proofs.leaf_stands.Goals as goal
use Rattle.stream.proofs.Resume.{leaf_streams}

pub returns : goal.returns
returns g c = leaf_streams
