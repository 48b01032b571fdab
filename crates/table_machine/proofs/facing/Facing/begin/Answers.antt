use Rattle.std.proofs.Common.{length, sym, ap, ◌∙◌}
use Rattle.stacks.specs.Slots.{slot_in}
use Rattle.table_machine.proofs.Moved.{begins}
use Rattle.table_machine.proofs.facing.Facing.begin.Goals as goal

pub returns : goal.returns
returns c = λ n cells e. begins n cells c.args.size _ _ (c.count_at.ensures.value ∙ ap (λ slots. length (slot_in slots 0)) (sym e)) c.min.ensures
