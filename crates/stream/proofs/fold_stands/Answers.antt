-- The rows' answers from the first on: Fold.antt proves it.
use Rattle.stream.proofs.fold_stands.Goals as goal
use Rattle.stream.proofs.Fold.{rows_fold}

pub returns : goal.returns
returns c all n ps t rows = rows_fold n ps t all rows
