-- There is a monomial for each number.
use Rattle.std.proofs.Common.{sym}
use Rattle.packed.proofs.Places.{length-monomials}
use Rattle.packed.proofs.StoredTest.{test-stored}
use Rattle.packed.proofs.view.View.len.Goals as goal

pub returns : goal.returns
returns c = record { value = sym (length-monomials c.args.self.now.cells.now); bound = (test-stored c.args.self.now.cells.now c.args.self.now.stored).short }
