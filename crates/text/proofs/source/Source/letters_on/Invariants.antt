use Rattle.std.proofs.Common.{◌≡◌, ◌-◌}
use Rattle.grammar.specs.Reader.{run}
use Rattle.grammar.specs.Tokens.{letters_for, letters_on}
use Rattle.text.proofs.source.Source.letters_on.Given as goal

abbrev pub invariant-loop-letter : goal.invariant-loop-letter
invariant-loop-letter l =
    (run letters_on l.self.text.now l.initial.at ≡ run (letters_for (8 - l.letter-index) (record { letters = l.letter-items; length = l.length })) l.self.text.now l.at) × (l.length ≡ l.letter-index)
