use Rattle.std.proofs.Common.{◌≡◌, ◌-◌}
use Rattle.grammar.specs.Reader.{run}
use Rattle.grammar.specs.Text.{prefix_for, quantifiers}
use Rattle.text.specs.Prefix.{counted}
use Rattle.text.proofs.prefix.quantifiers.Given as goal

-- the prefix in parts: its quantifiers, then how many are counted
abbrev pub invariant-loop-turn : goal.invariant-loop-turn
invariant-loop-turn l = (run quantifiers l.text l.initial.at ≡ run (prefix_for (4 - l._turn) (counted l.prefix.0 l.prefix.1.0)) l.text l.at) × (l.prefix.1.0 ≡ l._turn)
