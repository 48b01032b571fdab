-- What a reader's answer says, with the place where it stands. Assumes nothing.
use Rattle.std.specs.Prelude.{ℕ, Ok, Err, Result}
use Rattle.grammar.specs.declared.fault.Fault.{Fault}
use Rattle.grammar.specs.Reader.{Outcome, Refused, Read, refusal_at}

abbrev pub outcome_of : {A : Type 0} → Result A Fault → ℕ → Outcome A
outcome_of (Ok a) at = Read a at
outcome_of (Err f) at = Refused (refusal_at f at)
