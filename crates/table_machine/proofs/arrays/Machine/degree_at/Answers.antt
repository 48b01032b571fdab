use Rattle.std.proofs.Common.{◌+◌, ap, ◌∙◌}
use Rattle.terms.specs.LeadingTerms.{degree_terms}
use Rattle.table_machine.specs.Cells.{cells_of}
use Rattle.table_machine.specs.Told.{front_terms}
use Rattle.table_machine.proofs.Realness.{degree_is}
use Rattle.table_machine.proofs.arrays.Machine.degree_at.Goals as goal

pub returns : goal.returns
returns c =
    let self = c.args.self.now in
    let slot = c.args.at.marks.base + c.args.i in
    c.degree.ensures.value ∙ ap (degree_terms self.others.count) (c.view.ensures ∙ ap (λ slots. front_terms slots slot c.left.result.count) c.polynomials.ensures.slots ∙ ap (λ l. front_terms self.slots.now slot l.count) c.left.ensures) ∙
    degree_is self.others.count (cells_of self) c.args.at.marks c.args.i self.hold c.requires.1
