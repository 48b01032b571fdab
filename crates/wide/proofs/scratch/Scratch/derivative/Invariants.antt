use Rattle.std.proofs.Common.{◌≡◌, ◌+◌, ◌-◌, ◌^◌, ◌≤◌, ◌++◌, length}
use Rattle.terms.specs.Monomial.{Rising}
use Rattle.terms.specs.Sizes.{SizesAtMost}
use Rattle.terms.specs.LeadingTerms.{slopes, derivative_terms}
use Rattle.packed.specs.Terms.{terms_in}
use Rattle.wide.specs.Written.{written}
use Rattle.wide.proofs.scratch.Scratch.derivative.Given as goal

abbrev pub invariant-loop-term : goal.invariant-loop-term
invariant-loop-term l =
    (written l.self.front ++ slopes l.fn.others.count l.term-iterator ≡ derivative_terms l.fn.others.count (terms_in l.fn.polynomial)) ×
    (length (written l.self.front) + length l.term-iterator ≤ 64) × Rising (32 ^ l.fn.others.count) (2 ^ 19) l.term-iterator × SizesAtMost (2 ^ 27 - 1) l.term-iterator
