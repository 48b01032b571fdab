use Rattle.stacks.proofs.Holding.{slot_laws}
use Rattle.stacks.proofs.laws.slots_stand.Goals as goal

pub returns : goal.returns
returns c = slot_laws
