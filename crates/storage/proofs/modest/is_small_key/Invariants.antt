use Rattle.std.proofs.Common.{◌≡◌, ◌-◌}
use Rattle.terms.specs.ModestTerms.{small_key}
use Rattle.storage.proofs.modest.is_small_key.Given as goal

abbrev pub invariant-loop : goal.invariant-loop
invariant-loop l = small_key (4 - l.counter) l.rest ≡ small_key 4 l.key
