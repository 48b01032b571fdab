-- Each monomial is asked.
use Rattle.std.proofs.Common.{ap, ◌∙◌}
use Rattle.terms.specs.ModestTerms.{small_terms}
use Rattle.storage.proofs.ModestSteps.{all_small}
use Rattle.storage.proofs.modest.is_small.Goals as goal

pub returns : goal.returns
returns c = all_small c.terms.result c.all.result c.all.ensures.ran (λ p x r q e. e.met) ∙ ap (small_terms 4) c.terms.ensures
