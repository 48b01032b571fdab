-- What a table asks about: TableDepth.antt proves it.
use Rattle.sign_table.proofs.table_depth_stands.Goals as goal
use Rattle.sign_table.proofs.TableDepth.{table_depth}

pub returns : goal.returns
returns c = table_depth
