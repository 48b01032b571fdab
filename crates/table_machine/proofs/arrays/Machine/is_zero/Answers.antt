use Rattle.std.proofs.Common.{suc, ◌+◌, ap, ◌∙◌}
use Rattle.terms.specs.Operations.{is_zero_terms}
use Rattle.storage.proofs.Denoting.{denoting_laws}
use Rattle.table_machine.specs.Told.{front_terms}
use Rattle.table_machine.proofs.Telling.{front-denotes}
use Rattle.table_machine.proofs.arrays.Machine.is_zero.Goals as goal

pub returns : goal.returns
returns c =
    let self = c.args.self.now in
    let marks = c.args.at.marks in
    let i = marks.base + marks.done in
    c.is_zero.ensures ∙ ap is_zero_terms c.current.ensures ∙
    denoting_laws.zero_is (suc self.others.count) (front_terms self.slots.now i marks.count) _ (front-denotes self.others.count self.slots.now i marks.count self.hold)
