use Rattle.table_machine.specs.Cells.{cells_of}
use Rattle.table_machine.proofs.Foreseen.{none_to_look, none_real, none_below}
use Rattle.table_machine.proofs.arrays.Machine.outlook.Goals as goal

pub returns-else-at-gt0-2 : goal.returns-else-at-gt0-2
returns-else-at-gt0-2 c = none_to_look c.args.self.now.others.count (cells_of c.args.self.now) c.args.at.marks c.if-at-gt0-2.false c.if-at-gt0.true

pub returns-in_default : goal.returns-in_default
returns-in_default c =
    let at = c.args.at in none_below c.args.self.now.others.count (cells_of c.args.self.now) at.marks c.in-Some.top at.fits c.if-at-gt0.false c.if-at-lt-DEEPEST.false c.in-Some.ensures

pub returns-in_default-2 : goal.returns-in_default-2
returns-in_default-2 c = none_real c.args.self.now.others.count (cells_of c.args.self.now) c.args.at.marks c.if-at-gt0.false c.in_default.ensures
