use Rattle.std.proofs.Common.{sym, ap, arith}
use Rattle.table_machine.specs.Cells.{cells_of}
use Rattle.table_machine.proofs.Realness.{real_one, plain_one, found}
use Rattle.table_machine.proofs.arrays.Machine.highest_real.Goals as goal
use Rattle.table_machine.proofs.arrays.Machine.highest_real.Goals.{then-left-gt0, else-left-gt0}

pub loop-i-preserved : goal.loop-i-preserved
loop-i-preserved c =
    let self = c.args.self.now in
    let marks = c.args.at.marks in
    let count = ap (λ l. l.count) (sym c.left.ensures) in
    elim c.if-left-gt0.branch [
      | then-left-gt0 w ↦
          let h = real_one self.others.count (cells_of self) marks c.loop-i.count c.loop-i.i c.loop-i.top c.loop-i.invariant.0 c.loop-i-test.true (omega (arith, count)) in
          (rw (w.count-is, w.top-is, w.higher.ensures) h, omega (arith, c.loop-i.invariant.1))
      | else-left-gt0 w ↦
          let h = plain_one self.others.count (cells_of self) marks c.loop-i.count c.loop-i.i c.loop-i.top c.loop-i.invariant.0 c.loop-i-test.true (omega (arith, count)) in
          (rw (w.count-is, w.top-is) h, omega (arith, c.loop-i.invariant.1))
    ]

pub returns : goal.returns
returns c = found c.args.self.now.others.count (cells_of c.args.self.now) c.args.at.marks c.loop-i.count c.loop-i.i c.loop-i.top c.loop-i.invariant.0 (omega arith)
