-- From the first key that is high enough on, no key is lower.
use Rattle.std.proofs.Common.{◌^◌, arith}
use Rattle.packed.specs.Terms.{terms_in}
use Rattle.packed.proofs.Leading.{below-most, rising-above}
use Rattle.packed.proofs.Lowered.{view-rising}
use Rattle.packed.proofs.stretch.Stretch.leading.Goals as goal

pub invariant_of-result : goal.invariant_of-result
invariant_of-result c = record {
  inside = omega (arith, c.count_below-from.ensures, below-most c.leading_key-down.result (terms_in c.args.view));
  above = λ i h l. rising-above 0 (2 ^ 19) c.leading_key-down.result (terms_in c.args.view) i (view-rising c.args.view) (omega (arith, c.count_below-from.ensures, h)) l;
}
