use Rattle.std.proofs.Common.{arith}
use Rattle.stacks.proofs.Fronts.{all_of_slot}
use Rattle.stacks.proofs.slots.count_at.Goals as goal

pub overflow_cast-result : goal.overflow_cast-result
overflow_cast-result c = let all = all_of_slot c.args.slots.now c.args.i _ c.front_at.ensures in record { fits = omega arith }

pub returns : goal.returns
returns c = let all = all_of_slot c.args.slots.now c.args.i _ c.front_at.ensures in record { value = all.0; bound = all.1 }
