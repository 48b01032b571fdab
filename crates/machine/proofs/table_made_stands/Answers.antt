-- The machine makes the table's tree: Theorems.antt proves it.
use Rattle.machine.proofs.table_made_stands.Goals as goal
use Rattle.machine.proofs.Theorems.{makes_table}

pub returns : goal.returns
returns c = makes_table
