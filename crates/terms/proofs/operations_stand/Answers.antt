-- Sums, products and equality: Laws.antt proves the laws.
use Rattle.terms.proofs.operations_stand.Goals as goal
use Rattle.terms.proofs.Laws.{flat_operation_laws}

pub returns : goal.returns
returns c = flat_operation_laws
