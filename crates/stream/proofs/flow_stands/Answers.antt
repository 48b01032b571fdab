-- The rows that leave a table as others come: Flow.antt proves it.
use Rattle.stream.proofs.flow_stands.Goals as goal
use Rattle.stream.proofs.Flow.{flow_deduces}

pub returns : goal.returns
returns c = flow_deduces
