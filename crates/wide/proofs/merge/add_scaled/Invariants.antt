use Rattle.std.proofs.Common.{◌+◌, ◌-◌, length}
use Rattle.wide.specs.Written.{written}
use Rattle.wide.specs.Merging.{Going, scaled_by}
use Rattle.wide.proofs.merge.add_scaled.Given as goal

abbrev pub invariant-loop-place : goal.invariant-loop-place
invariant-loop-place l = Going (scaled_by l.by l.polynomial) (written l.list) l.place.left l.place.right (written l.out)

abbrev pub decreases-loop-place : goal.decreases-loop-place
decreases-loop-place l = length (scaled_by l.by l.polynomial) + length (written l.list) - (l.place.left + l.place.right)
