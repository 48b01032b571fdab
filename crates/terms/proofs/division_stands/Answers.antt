-- Division: Laws.antt proves the laws.
use Rattle.terms.proofs.division_stands.Goals as goal
use Rattle.terms.proofs.Laws.{flat_division_laws}

pub returns : goal.returns
returns c = flat_division_laws
