use Rattle.std.proofs.Common.{◌-◌, List, ◌++◌, take, ℤ}
use Rattle.text.specs.Sheet.{Holds, Behind}
use Rattle.text.proofs.sheet.Sheet.repeat.Given as goal

abbrev pub invariant-loop-i : goal.invariant-loop-i
invariant-loop-i l =
    (xs ys zs : List ℤ) → Behind xs l.from → Behind (xs ++ ys) l.to → Holds l.initial.self (xs ++ (ys ++ zs)) →
    Holds l.self (xs ++ (ys ++ (zs ++ take (l.i - l.from) ys)))
