-- From the beginning, lowered by nothing.
use Rattle.packed.specs.Terms.{terms_in}
use Rattle.packed.proofs.Lowered.{lowered_none}
use Rattle.packed.proofs.stretch.Stretch.whole.Goals as goal

pub returns : goal.returns
returns c = lowered_none (terms_in c.args.view)
