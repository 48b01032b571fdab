-- The signs of a row. Assumes nothing.
use Rattle.std.specs.Prelude.{List}
use Rattle.field.specs.declared.sign.Sign.{Sign}
use Rattle.row_stream.specs.declared.at_most.AtMost.{AtMost}
use Rattle.row_stream.specs.AtMost.{values_of}

abbrev pub signs_of : AtMost Sign 63 → List Sign
signs_of r = values_of r
