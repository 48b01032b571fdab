use Rattle.std.proofs.Common.{◌≡◌, ◌-◌}
use Rattle.grammar.specs.Reader.{run}
use Rattle.grammar.specs.Tokens.{blanks_for, blanks}
use Rattle.text.proofs.source.Source.blanks.Given as goal

abbrev pub invariant-loop-turn : goal.invariant-loop-turn
invariant-loop-turn l = run blanks l.self.text.now l.initial.at ≡ run (blanks_for (65536 - l._turn)) l.self.text.now l.at
