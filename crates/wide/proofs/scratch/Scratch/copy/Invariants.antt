use Rattle.std.proofs.Common.{◌≡◌, ◌^◌, ◌++◌}
use Rattle.terms.specs.Sizes.{KeysBelow}
use Rattle.packed.specs.StretchTerms.{stretch_terms}
use Rattle.wide.specs.Written.{written}
use Rattle.wide.proofs.scratch.Scratch.copy.Given as goal

abbrev pub invariant-loop-term : goal.invariant-loop-term
invariant-loop-term l = (written l.self.front ++ l.term-iterator ≡ stretch_terms l.fn.stretch) × KeysBelow (2 ^ 19) l.term-iterator
