use Rattle.std.proofs.Common.{rules, ap, subst}
use Rattle.stacks.specs.Written.{Written}
use Rattle.stacks.specs.Values.{left_in}
use Rattle.table_machine.specs.Cells.{cells_of}
use Rattle.table_machine.proofs.Settled.{settles_zero, settles-passed}
use Rattle.table_machine.proofs.arrays.Machine.settle.Goals as goal

pub returns-then-eq-clause-settles : goal.returns-then-eq-clause-settles
returns-then-eq-clause-settles c =
    let self = c.args.self.now in settles_zero self.others.count (cells_of self) c.args.at.marks c.args.sign _ self.hold (search rules) c.shorter.ensures.marks

pub returns-clause-settles : goal.returns-clause-settles
returns-clause-settles c =
    let self = c.args.self.now in
    settles-passed self.others.count (cells_of self) c.args.at.marks c.args.sign _ _ _ self.hold (search rules) c.left_of-left.ensures
    (subst (λ i. Written left_in i c.left_of-left.result self.lefts.now c.write.new.cells) (ap (λ f. f.slot) c.front.ensures) c.write.ensures) c.next.ensures.marks
