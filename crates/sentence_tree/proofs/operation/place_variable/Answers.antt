use Rattle.std.proofs.Common.{sym, ap, ◌∙◌, subst}
use Rattle.terms.specs.Operations.{variable_terms}
use Rattle.poly.specs.Arithmetic.{variable}
use Rattle.storage.specs.Denoting.{Checks}
use Rattle.storage.proofs.Denoting.{denoting_laws}
use Rattle.sentence_tree.proofs.operation.place_variable.Goals as goal

pub returns-clause-placed : goal.returns-clause-placed
returns-clause-placed c =
    let n = c.args.variables.count in
    let p = variable n c.args.i in
    c.place.ensures.placed n p (subst (λ ts. Checks n ts p) (sym (c.variable.ensures.value ∙ ap (variable_terms n) c.from.ensures)) (denoting_laws.variable_checks n c.args.i c.args.variables.few))
