use Rattle.std.proofs.Common.{◌≡◌, ◌^◌, ◌++◌, drop}
use Rattle.terms.specs.Sizes.{KeysBelow}
use Rattle.wide.specs.Written.{written}
use Rattle.wide.proofs.wide.Wide.append.Given as goal

abbrev pub invariant-loop-term : goal.invariant-loop-term
invariant-loop-term l = (written l.self ++ l.term-iterator ≡ written l.initial.self ++ drop l.from (written l.list)) × KeysBelow (2 ^ 63) l.term-iterator
