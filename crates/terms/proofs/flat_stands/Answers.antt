-- Polynomials and their monomials: Laws.antt proves the laws.
use Rattle.terms.proofs.flat_stands.Goals as goal
use Rattle.terms.proofs.Laws.{flat_laws}

pub returns : goal.returns
returns c = flat_laws
