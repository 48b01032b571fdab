-- What is still to be passed over ends as the whole does.
use Rattle.std.proofs.Common.{◌≡◌, ◌-◌}
use Rattle.words.specs.Reading.{mapped, skipped}
use Rattle.words.specs.Words.{quantifiers_at}
use Rattle.words.proofs.reader.Reader.skip_quantifiers.Given as goal

abbrev pub invariant-loop : goal.invariant-loop
invariant-loop l = mapped skipped (quantifiers_at (l.count - l.counter) l.self.rest.now) ≡ mapped skipped (quantifiers_at l.fn.count l.fn.self.rest.now)
