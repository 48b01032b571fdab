-- Cells: Laws.antt proves the laws.
use Rattle.terms.proofs.cells_stand.Goals as goal
use Rattle.terms.proofs.Laws.{cell_laws}

pub returns : goal.returns
returns c = cell_laws
