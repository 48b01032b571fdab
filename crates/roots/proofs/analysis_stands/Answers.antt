-- Over every real closed field the statements hold: Analysis.antt proves them.
use Rattle.roots.proofs.analysis_stands.Goals as goal
use Rattle.roots.proofs.Analysis.{analysis}

-- src/lib.rt:6:1
pub returns : goal.returns
returns g c = analysis g.F.RealClosed.field
