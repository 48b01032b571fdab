-- So many slots are filled, and so many of the real ones' signs are left.
use Rattle.std.proofs.Common.{◌≡◌, length}
use Rattle.sign_table.specs.Deduce.{insert_at}
use Rattle.row_stream.proofs.Fill.{FilledTo, reals_rest}
use Rattle.row_stream.proofs.stage.Stage.filled.Given as goal

abbrev pub invariant-loop-i : goal.invariant-loop-i
invariant-loop-i l = (length l.items ≡ 63) × FilledTo l.plan (insert_at l.self.place l.fn.sign l.others) l.items l.i (reals_rest l.reals)
