use Rattle.table_machine.proofs.Deriving.{pushed-loaded}
use Rattle.table_machine.proofs.below.load.Goals as goal

pub returns : goal.returns
returns c =
    pushed-loaded c.args.slots.now c.args.front.slot c.args.front.count c.front_at-monomials.result.now c.top-from.result c.args.arena.now.top
    c.args.arena.now.cells.now c.push_all.new.self.top c.push_all.new.self.cells.now c.requires c.top-from.ensures c.front_at-monomials.ensures
    c.args.arena.now.within c.in_ok-push_all.ensures.stands
