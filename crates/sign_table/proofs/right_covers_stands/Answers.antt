-- Right tables cover the line: Covers.antt proves it.
use Rattle.sign_table.proofs.right_covers_stands.Goals as goal
use Rattle.sign_table.proofs.Covers.{right_covers}

pub returns : goal.returns
returns g c = right_covers g.F.RealClosed.field
