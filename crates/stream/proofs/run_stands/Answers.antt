-- A whole run: Chain.antt proves it.
use Rattle.stream.proofs.run_stands.Goals as goal
use Rattle.stream.proofs.Chain.{run_resumes}

pub returns : goal.returns
returns g c = run_resumes
