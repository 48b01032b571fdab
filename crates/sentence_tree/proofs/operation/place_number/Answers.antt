use Rattle.std.proofs.Common.{sym, ap, ◌∙◌, subst, w64, SFits, rules}
use Rattle.std.proofs.lemmas.Int.{to_z-of_z}
use Rattle.poly.specs.Arithmetic.{constant}
use Rattle.terms.specs.Monomial.{constant_terms}
use Rattle.storage.specs.Denoting.{Checks}
use Rattle.storage.proofs.Denoting.{denoting_laws}
use Rattle.sentence_tree.proofs.operation.place_number.Goals as goal

pub returns-clause-placed : goal.returns-clause-placed
returns-clause-placed c n few =
    let z = c.args.number in
    let fits : SFits w64 z = search rules in
    c.place.ensures.placed n (constant n z) (subst (λ ts. Checks n ts (constant n z)) (sym (c.number.ensures.value ∙ ap constant_terms (to_z-of_z w64 z fits))) (denoting_laws.number_checks n z few))
