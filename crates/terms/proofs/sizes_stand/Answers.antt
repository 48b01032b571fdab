-- Sizes: Laws.antt proves the laws.
use Rattle.terms.proofs.sizes_stand.Goals as goal
use Rattle.terms.proofs.Laws.{size_laws}

pub returns : goal.returns
returns c = size_laws
