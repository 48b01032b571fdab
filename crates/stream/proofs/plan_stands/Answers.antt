-- The plan is all that rows need: Plan.antt proves it.
use Rattle.stream.proofs.plan_stands.Goals as goal
use Rattle.stream.proofs.Plan.{plan_suffices}

pub returns : goal.returns
returns c = plan_suffices
