-- A sign that is known or not, as the code holds it. Assumes nothing.
use Rattle.std.specs.Prelude.{Some, None, Option}
use Rattle.field.specs.declared.sign.Sign.{Sign}
use Rattle.sign_table.specs.Facts.{Known, Unknown, Is}

abbrev pub known_of : Option Sign → Known
known_of None = Unknown
known_of (Some s) = Is s
