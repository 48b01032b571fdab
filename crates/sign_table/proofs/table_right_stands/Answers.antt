-- Tables are right: Table.antt proves it.
use Rattle.sign_table.proofs.table_right_stands.Goals as goal
use Rattle.sign_table.proofs.Table.{table_right}

pub returns : goal.returns
returns g c = table_right g.F.RealClosed.field
