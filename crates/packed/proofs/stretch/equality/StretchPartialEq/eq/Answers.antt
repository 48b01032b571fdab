-- Lists of one length are compared by their iterators, and others are not the same.
use Rattle.std.proofs.Common.{sym, ◌∙◌, ap₂, ne_eqb}
use Rattle.terms.specs.Operations.{same_terms}
use Rattle.packed.proofs.Signed.{other_length}
use Rattle.packed.proofs.Compared.{same_compared}
use Rattle.packed.proofs.stretch.equality.StretchPartialEq.eq.Goals as goal

pub returns-then-len : goal.returns-then-len
returns-then-len c = same_compared c.terms.result c.terms-then-len.result c.eq.result c.eq.ensures.ran ∙ ap₂ same_terms c.terms.ensures c.terms-then-len.ensures

pub returns-else-len : goal.returns-else-len
returns-else-len c =
    ne_eqb c.len.result c.len-2.result c.if-len.false ∙ sym (other_length _ _ (λ e. c.if-len.false (c.len.ensures.value ∙ e ∙ sym c.len-2.ensures.value)))
