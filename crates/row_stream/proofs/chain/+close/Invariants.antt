-- One table after another.
use Rattle.std.proofs.Common.{length}
use Rattle.row_stream.proofs.chain.+close.Given as goal

abbrev pub decreases-close : goal.decreases-close
decreases-close g l = length l.stages.now
