-- What comes of a leaf of the machine, whose tables wait for their rows: the chain of those tables, run. Assumes nothing.
use Rattle.std.specs.Prelude.{List, map}
use Rattle.sign_table.specs.Tree.{Tree, GivenUp}
use Rattle.machine.specs.Machine.{Frame, Waiting}
use Rattle.stream.specs.Stage.{Stage, plan_of, Outcome, Gap, Went}

abbrev pub stage_of : Frame → Stage
stage_of (Waiting ls i l) = record { plan = plan_of ls; place = i; divisors = l }

abbrev pub stages_of : List Frame → List Stage
stages_of frames = map stage_of frames

-- where there is a gap it is given up
abbrev pub answered : {A : Type 0} → (A → Tree) → Outcome A → Tree
answered finish Gap = GivenUp
answered finish (Went a) = finish a
