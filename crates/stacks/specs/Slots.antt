-- Polynomials in slots of 65 numbers. Assumes nothing.
use Rattle.std.specs.Prelude.{ℕ, ◌*◌, min, List, take, drop, ℤ, pos, slice_index_or}
use Rattle.question.specs.Cells.{small_of}
use Rattle.stacks.specs.Written.{part}

-- the monomials in a slot, at most 64
abbrev pub slot_of : List ℤ → List ℤ
slot_of zs = take (min (small_of (slice_index_or zs 0 (pos 0))) 64) (drop 1 zs)

abbrev pub slot_in : List ℤ → ℕ → List ℤ
slot_in cells i = slot_of (part 65 (65 * i) cells)
