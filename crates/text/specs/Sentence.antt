-- What a sentence's answer says. Assumes nothing.
use Rattle.std.specs.Prelude.{ℕ, List, [], ◌∷◌, map, pos, Result}
use Rattle.grammar.specs.declared.fault.Fault.{Fault}
use Rattle.grammar.specs.Meaning.{quantifier_word, sentence_words}
use Rattle.grammar.specs.Reader.{run}
use Rattle.grammar.specs.Text.{sentence}
use Rattle.text.specs.declared.draft.Draft.{Draft}
use Rattle.text.specs.declared.bound.Prefix.{Prefix}
use Rattle.text.specs.declared.sheet.Sheet.{Sheet}
use Rattle.text.specs.Prefix.{prefix_of}
use Rattle.text.specs.Reads.{ReadAs}
use Rattle.text.specs.Sheet.{Holds}

-- how many quantifiers there are, and these
abbrev pub Announces : Prefix → Sheet → Sheet → Type 0
Announces p before after = Holds before [] → Holds after (pos p.count ∷ map quantifier_word (prefix_of p).quantifiers)

-- from an empty sheet
abbrev pub WritesSentence : List ℕ → Result (Unit {0}) Fault → Draft → Draft → Type 0
WritesSentence text r before after = Holds before.sheet [] → ReadAs (λ s _. Holds after.sheet (sentence_words s)) (run sentence text before.at) r after.at
