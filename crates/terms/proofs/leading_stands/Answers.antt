-- The first variable: Laws.antt proves the laws.
use Rattle.terms.proofs.leading_stands.Goals as goal
use Rattle.terms.proofs.Laws.{flat_leading_laws}

pub returns : goal.returns
returns c = flat_leading_laws
