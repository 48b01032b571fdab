use Rattle.std.proofs.Common.{sym, subst}
use Rattle.stacks.specs.Memories.{AllHold}
use Rattle.stacks.proofs.Holding.{zeros_hold}
use Rattle.stacks.proofs.slots.clear.Goals as goal

pub returns : goal.returns
returns c n = subst (AllHold n) (sym (c.fill.ensures.after (λ y h. h))) (zeros_hold _ n)
