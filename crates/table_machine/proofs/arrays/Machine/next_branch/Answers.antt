use Rattle.std.proofs.Common.{sym, refl, ap, ◌∙◌}
use Rattle.table_machine.specs.Cells.{cells_of}
use Rattle.table_machine.specs.Moving.{is_below}
use Rattle.table_machine.proofs.Moved.{returned_above, returned_at, finishes}
use Rattle.table_machine.proofs.arrays.Machine.next_branch.Goals as goal

pub returns-in-Above-clause-returns : goal.returns-in-Above-clause-returns
returns-in-Above-clause-returns c = (
  c.explore.ensures.pending,
  returned_above c.args.self.now.others.count (cells_of c.args.self.now) c.args.tree _ c.args.pending (cells_of c.explore.new.self) c.explore.result.marks c.explore.result.pending c.requires.some c.question-branch.ensures
      c.explore.ensures.pending c.in-Above.is c.explore.ensures.explores,
)

pub returns-in-At-clause-returns : goal.returns-in-At-clause-returns
returns-in-At-clause-returns c = (
  c.explore-in-At.ensures.pending,
  returned_at c.args.self.now.others.count (cells_of c.args.self.now) c.args.tree _ c.args.pending (cells_of c.explore-in-At.new.self) c.explore-in-At.result.marks c.explore-in-At.result.pending c.requires.some c.question-branch.ensures
      c.explore-in-At.ensures.pending c.in-At.above c.in-At.is c.explore-in-At.ensures.explores,
)

pub returns-in-Below-clause-returns : goal.returns-in-Below-clause-returns
returns-in-Below-clause-returns c = (
  refl,
  ap (λ q. is_below q.branch) (sym c.question-branch.ensures) ∙ ap is_below c.in-Below.is,
  finishes c.args.self.now.others.count (cells_of c.args.self.now) c.args.tree c.args.pending c.requires.some,
)
