-- At most n values. Assumes nothing.
use Rattle.std.specs.Prelude.{ℕ, min, List, take}
use Rattle.row_stream.specs.declared.at_most.AtMost.{AtMost}

abbrev pub values_of : {T : Type 0} {n : ℕ} → AtMost T n → List T
values_of {T} {n} r = take (min r.count n) r.items
