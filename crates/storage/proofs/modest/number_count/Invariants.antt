use Rattle.std.proofs.Common.{◌≡◌, ◌*◌, ◌≤◌, List, ◌++◌, length}
use Rattle.terms.specs.Monomial.{Monomial}
use Rattle.terms.specs.ModestTerms.{last_digits}
use Rattle.wide.specs.Written.{written}
use Rattle.storage.proofs.ModestSteps.{Heads}
use Rattle.storage.proofs.modest.number_count.Given as goal

abbrev pub invariant-loop-term : goal.invariant-loop-term
invariant-loop-term l =
    (last : List Monomial) × (l.term-iterator.iter ++ last ≡ written l.list) × (l.count ≡ last_digits last) × (l.count ≤ 32 * length last) × Heads l.next last
