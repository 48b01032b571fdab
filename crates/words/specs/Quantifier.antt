-- Quantifiers and their words. Assumes nothing.
use Rattle.std.specs.Prelude.{Bool, true, false, ℤ, pos}
use Rattle.words.specs.declared.quantifier.Quantifier.{Quantifier}
use Rattle.words.specs.declared.quantifier.Quantifier.TheVariants.{Exists, ForAll}

-- to "every", and not to "some"
abbrev pub over_all : Quantifier → Bool
over_all Exists = false
over_all ForAll = true

-- the word of a quantifier
abbrev pub quantifier_word : Quantifier → ℤ
quantifier_word Exists = pos 0
quantifier_word ForAll = pos 1
