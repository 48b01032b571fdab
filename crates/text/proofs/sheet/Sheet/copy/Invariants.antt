use Rattle.std.proofs.Common.{List, ◌++◌, ℤ}
use Rattle.text.specs.Sheet.{Holds, Behind, copies}
use Rattle.text.proofs.sheet.Sheet.copy.Given as goal

abbrev pub invariant-loop-turn : goal.invariant-loop-turn
invariant-loop-turn l =
    (xs ys : List ℤ) → Behind xs l.from → Behind (xs ++ ys) l.to → Holds l.initial.self (xs ++ ys) → Holds l.self (xs ++ (ys ++ copies l._turn ys))
