use Rattle.std.proofs.Common.{[], ◌∷◌, map, take, pos}
use Rattle.grammar.specs.Meaning.{quantifier_word}
use Rattle.text.specs.Prefix.{every_of}
use Rattle.text.specs.Sheet.{Holds}
use Rattle.text.proofs.sentence.announce.Given as goal

abbrev pub invariant-loop-bound : goal.invariant-loop-bound
invariant-loop-bound l = Holds l.initial.sheet (pos l.fn.prefix.count ∷ []) → Holds l.sheet (pos l.fn.prefix.count ∷ map quantifier_word (take l.bound-index (map every_of l.bound-items)))
