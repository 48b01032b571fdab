-- As many as there are from the place on.
use Rattle.std.proofs.Common.{arith}
use Rattle.packed.proofs.Lowered.{stretch_length}
use Rattle.packed.proofs.stretch.Stretch.len.Goals as goal

pub returns-clause-value : goal.returns-clause-value
returns-clause-value c = omega (arith, stretch_length c.args.self.now, c.len.ensures.value)
