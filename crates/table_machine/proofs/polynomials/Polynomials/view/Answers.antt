use Rattle.stacks.specs.Slots.{slot_in}
use Rattle.stacks.proofs.Holding.{slot_laws}
use Rattle.table_machine.proofs.polynomials.Polynomials.view.Goals as goal

pub view_at-requires : goal.view_at-requires
view_at-requires c =
    let self = c.args.self.now in
    let front = c.args.front in
    (slot_laws.front_holds self.others.count (slot_in self.slots.now front.slot) front.count (self.hold front.slot)).stored
