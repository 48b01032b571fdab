use Rattle.std.proofs.Common.{sym, subst}
use Rattle.wide.specs.Written.{written}
use Rattle.sentence_tree.specs.Placed.{Places}
use Rattle.sentence_tree.proofs.Stored.{placed_stored}
use Rattle.sentence_tree.proofs.operation.place.Goals as goal

pub returns-clause-placed : goal.returns-clause-placed
returns-clause-placed c =
    let arena = c.args.arena.now in
    let after = c.pack.new.arena in
    subst (λ r. Places (written c.args.list.now) r arena.top arena.cells.now after.top after.cells.now) (sym c.ok.ensures.value)
    (placed_stored c.pack.result (written c.args.list.now) arena.top arena.cells.now after.top after.cells.now c.pack.ensures.stored)
