-- Modest polynomials: Laws.antt proves the laws.
use Rattle.terms.proofs.modest_stands.Goals as goal
use Rattle.terms.proofs.Laws.{flat-modest_laws}

pub returns : goal.returns
returns c = flat-modest_laws
