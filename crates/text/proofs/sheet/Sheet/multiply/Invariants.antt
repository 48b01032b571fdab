use Rattle.std.proofs.Common.{List, ◌++◌, ℤ}
use Rattle.text.specs.Sheet.{Holds, Behind, products}
use Rattle.text.proofs.sheet.Sheet.multiply.Given as goal

abbrev pub invariant-loop-turn : goal.invariant-loop-turn
invariant-loop-turn l = (xs ys : List ℤ) → Behind xs l.from → Holds l.initial.self (xs ++ ys) → Holds l.self (xs ++ (products l._turn ++ ys))
