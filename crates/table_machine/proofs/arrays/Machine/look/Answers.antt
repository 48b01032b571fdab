use Rattle.std.proofs.Common.{sym, subst, arith}
use Rattle.table_machine.specs.Cells.{cells_of}
use Rattle.table_machine.specs.Moving.{Moves}
use Rattle.table_machine.proofs.Moved.{moves_zero, moves-known}
use Rattle.table_machine.proofs.arrays.Machine.look.Goals as goal

pub returns-then-is_zero-clause-looks : goal.returns-then-is_zero-clause-looks
returns-then-is_zero-clause-looks c =
    let self = c.args.self.now in
    record {
      asked = 0;
      counted = omega arith;
      moves = subst (λ d. Moves self.others.count (cells_of self) c.args.at d c.pass_zero.result 0) (sym c.pass_zero.ensures.rest)
          (moves_zero self.others.count (cells_of self) c.args.at.marks c.args.at.pending c.pass_zero.new.self.lefts.now c.pass_zero.result.marks c.pass_zero.result.pending
          c.requires.some.0 c.requires.some.1 (sym c.if-is_zero.ensures) c.pass_zero.ensures.passes c.pass_zero.ensures.pending);
    }

pub returns-in-Some-clause-looks : goal.returns-in-Some-clause-looks
returns-in-Some-clause-looks c =
    let self = c.args.self.now in
    record {
      asked = 0;
      counted = omega arith;
      moves = subst (λ d. Moves self.others.count (cells_of self) c.args.at d c.settle.result 0) (sym c.settle.ensures.rest)
          (moves-known self.others.count (cells_of self) c.args.at.marks c.args.at.pending c.in-Some.sign c.settle.new.self.lefts.now c.settle.result.marks c.settle.result.pending
          c.requires.some.0 c.requires.some.1 (sym c.if-is_zero.ensures) c.in-Some.ensures c.settle.ensures.settles c.settle.ensures.pending);
    }
