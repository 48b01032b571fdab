-- The points of a right table: Covers.antt proves that they are just the roots.
use Rattle.sign_table.proofs.roots_exactly_stands.Goals as goal
use Rattle.sign_table.proofs.Covers.{roots_exactly}

pub returns : goal.returns
returns g c = roots_exactly g.F.RealClosed.field
