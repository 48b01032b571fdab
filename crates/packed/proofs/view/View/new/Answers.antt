-- The test holds of a stored polynomial.
use Rattle.packed.proofs.StoredTest.{stored-test}
use Rattle.packed.proofs.view.View.new.Goals as goal

pub invariant_of-result : goal.invariant_of-result
invariant_of-result c = record { stored = stored-test c.args.cells.now c.requires }
