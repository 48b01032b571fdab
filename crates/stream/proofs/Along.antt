-- The rows of an interval by the way that p goes along it. Assumes nothing.
use mathlib.Core.Path.{◌≡◌, refl}
use mathlib.Core.List.{List, ◌∷◌}
use Rattle.std.specs.Prelude.{Option, Some, None}
use Rattle.field.specs.declared.sign.Sign.{Sign}
use Rattle.field.specs.declared.sign.Sign.TheVariants.{Neg, Zero, Pos}
use Rattle.field.specs.Sign.{flip}
use Rattle.sign_table.specs.Facts.{Known, Unknown, Is}
use Rattle.sign_table.specs.Deduce.{Row, row_is, row_unknown, between}
use Rattle.stream.specs.declared.way.Way.{Way}
use Rattle.stream.specs.declared.way.Way.TheVariants.{Stays, Crosses}
use Rattle.stream.specs.Step.{way_between}

abbrev pub along : Option Way → List Sign → List Row → List Row
along (Some (Stays s)) o rest = row_is s o ∷ rest
along (Some (Crosses s)) o rest = row_is s o ∷ row_is Zero o ∷ row_is (flip s) o ∷ rest
along None o rest = row_unknown o ∷ rest

pub between_along : (p q : Known) (o : List Sign) (rest : List Row) → between p q o rest ≡ along (way_between p q) o rest
between_along (Is Neg) (Is Neg) o rest = refl
between_along (Is Neg) (Is Zero) o rest = refl
between_along (Is Neg) (Is Pos) o rest = refl
between_along (Is Zero) (Is Neg) o rest = refl
between_along (Is Zero) (Is Zero) o rest = refl
between_along (Is Zero) (Is Pos) o rest = refl
between_along (Is Pos) (Is Neg) o rest = refl
between_along (Is Pos) (Is Zero) o rest = refl
between_along (Is Pos) (Is Pos) o rest = refl
between_along (Is s) Unknown o rest = refl
between_along Unknown (Is s) o rest = refl
between_along Unknown Unknown o rest = refl

pub lost_unknown : (p : Known) → way_between p Unknown ≡ None
lost_unknown (Is s) = refl
lost_unknown Unknown = refl
