-- What a table keeps, as the code holds it. Assumes nothing.
use Rattle.std.specs.Prelude.{List, [], map, Option, Some, None}
use Rattle.stream.specs.Step.{Side as TableSide, Far as NonePoint, After as AfterPoint, Cell as TableCell, Clear as OnlySide, Held as WithInterval}
use Rattle.row_stream.specs.declared.cell.Side.{Side}
use Rattle.row_stream.specs.declared.cell.Side.TheVariants.{Far, After}
use Rattle.row_stream.specs.declared.cell.Cell.{Cell}
use Rattle.field.specs.declared.sign.Sign.{Sign}
use Rattle.row_stream.specs.declared.at_most.AtMost.{AtMost}
use Rattle.row_stream.specs.Known.{known_of}
use Rattle.row_stream.specs.Signs.{signs_of}

abbrev pub side_of : Side → TableSide
side_of Far = NonePoint
side_of (After p) = AfterPoint (known_of p)

abbrev pub cell_with : TableSide → Option (AtMost Sign 63) → TableCell
cell_with side None = OnlySide side
cell_with side (Some o) = WithInterval side (signs_of o)

abbrev pub cell_of : Cell → TableCell
cell_of c = cell_with (side_of c.side) c.held

abbrev pub cells_of : List Cell → List TableCell
cells_of cs = map cell_of cs

abbrev pub signs_held : Option (AtMost Sign 63) → List Sign
signs_held None = []
signs_held (Some o) = signs_of o

-- the others' signs on the interval whose point is still to come
abbrev pub held_of : Cell → List Sign
held_of c = signs_held c.held

-- before the first row
abbrev pub empty_cell : Cell
empty_cell = record { side = Far; held = None }
