-- What is written and what is still to come are the sum, and what is left of the list in the end is copied.
use Rattle.std.proofs.Common.{◌∙◌, arith}
use Rattle.terms.proofs.Bounds.{length_scaled}
use Rattle.packed.specs.Terms.{terms_in}
use Rattle.wide.specs.Written.{written}
use Rattle.wide.specs.Merging.{scaled_by}
use Rattle.wide.proofs.Merging.{ended}
use Rattle.wide.proofs.merge.add_scaled.Goals as goal

pub merge_next-place-requires : goal.merge_next-place-requires
merge_next-place-requires c =
    record {
      fits = c.requires;
      left =
          omega (arith, c.loop-place-test.true, c.len.ensures.value, length_scaled c.args.by.key c.args.by.coefficient (terms_in c.args.polynomial));
      right = c.loop-place.invariant.right_within;
      short = c.loop-place.invariant.short;
    }

pub returns : goal.returns
returns c =
    let l = length_scaled c.args.by.key c.args.by.coefficient (terms_in c.args.polynomial) in
    c.append.ensures ∙
    ended (scaled_by c.args.by c.args.polynomial) (written c.args.list.now) c.loop-place.place.left c.loop-place.place.right (written c.loop-place.out) c.loop-place.invariant
    (omega (arith, l, c.loop-place-test.false, c.len.ensures.value))
