use Rattle.std.proofs.Common.{◌≡◌, ◌+◌, ◌-◌, subst, arith}
use Rattle.field.specs.declared.sign.Sign.TheVariants.{Pos}
use Rattle.stacks.specs.declared.marks.Branch.TheVariants.{Above}
use Rattle.table_machine.specs.Cells.{cells_of}
use Rattle.table_machine.specs.Moving.{Explores}
use Rattle.table_machine.proofs.Moved.{moves-asked}
use Rattle.table_machine.proofs.arrays.Machine.ask.Goals as goal

pub returns-clause-looks : goal.returns-clause-looks
returns-clause-looks c =
    let n = c.args.self.now.others.count in
    let before = cells_of c.args.self.now in
    let after = cells_of c.explore.new.self in
    let at = c.args.at in
    let r = c.explore.result in
    let last : at.pending + 1 - 1 ≡ at.pending = omega arith in
    let explores = subst (λ k. Explores n before at.marks k Above Pos after r.marks) last c.explore.ensures.explores in
    record {
      asked = 1;
      counted = c.explore.ensures.pending;
      moves = moves-asked n before at.marks at.pending after r.marks r.pending
          c.requires.some.0 c.requires.some.1 c.requires.unknown.0 c.requires.unknown.1 explores c.explore.ensures.pending;
    }
