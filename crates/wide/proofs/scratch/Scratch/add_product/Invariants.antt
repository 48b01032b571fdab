use Rattle.std.proofs.Common.{◌≡◌, List, ◌++◌}
use Rattle.terms.specs.Monomial.{Monomial}
use Rattle.terms.specs.Operations.{add_product}
use Rattle.packed.specs.Terms.{terms_in}
use Rattle.packed.specs.StretchTerms.{stretch_terms}
use Rattle.wide.specs.Written.{written}
use Rattle.wide.proofs.scratch.Scratch.add_product.Given as goal

abbrev pub invariant-loop-term : goal.invariant-loop-term
invariant-loop-term l =
    (last : List Monomial) × (l.term-iterator.iter ++ last ≡ stretch_terms l.fn.stretch) × (written l.self.front ≡ add_product last (terms_in l.polynomial) (written l.initial.self.front))
