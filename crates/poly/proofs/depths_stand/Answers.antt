-- The counts of variables: Theorems.antt proves the laws.
use Rattle.poly.proofs.depths_stand.Goals as goal
use Rattle.poly.proofs.Theorems.{depth_laws}

pub returns : goal.returns
returns c = depth_laws
