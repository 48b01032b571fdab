-- Trimmed and short lists: Laws.antt proves the laws.
use Rattle.terms.proofs.canon_stands.Goals as goal
use Rattle.terms.proofs.Laws.{canon_laws}

pub returns : goal.returns
returns c = canon_laws
