use Rattle.std.proofs.Common.{◌≡◌, ◌-◌, ◌^◌, List, ◌++◌, ℤ}
use Rattle.terms.specs.Sizes.{KeysBelow, SizesAtMost}
use Rattle.terms.specs.Cells.{cells_of}
use Rattle.wide.specs.Written.{written}
use Rattle.arena.specs.Growth.{Grown}
use Rattle.storage.proofs.pack.pack.Given as goal

abbrev pub invariant-loop-term : goal.invariant-loop-term
invariant-loop-term l =
    (done : List ℤ) × (done ++ cells_of l.term-iterator ≡ cells_of (written l.list)) × Grown done l.initial.arena.top l.initial.arena.cells.now l.arena.top l.arena.cells.now ×
    (l.arena.cells.ghost_name ≡ l.initial.arena.cells.ghost_name) × KeysBelow (2 ^ 20) l.term-iterator × SizesAtMost (2 ^ 27 - 1) l.term-iterator
