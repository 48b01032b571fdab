use Rattle.std.proofs.Common.{◌≡◌, ◌-◌, ◌≤◌}
use Rattle.grammar.specs.Reader.{run}
use Rattle.grammar.specs.Tokens.{digits_for, digits}
use Rattle.text.proofs.source.Source.digits.Given as goal

abbrev pub invariant-loop-turn : goal.invariant-loop-turn
invariant-loop-turn l =
    (run digits l.self.text.now l.initial.at ≡ run (digits_for (5 - l._turn) l.number) l.self.text.now l.at) × (l.number ≤ 65535)
