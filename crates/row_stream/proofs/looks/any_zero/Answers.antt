-- The same recursion as that of the library.
use Rattle.std.proofs.Common.{◌∙◌}
use Rattle.row_stream.proofs.Places.{any_zero_is}
use Rattle.row_stream.proofs.looks.any_zero.Goals as goal

pub returns : goal.returns
returns c = c.contains.ensures.value ∙ any_zero_is c.args.signs.now
