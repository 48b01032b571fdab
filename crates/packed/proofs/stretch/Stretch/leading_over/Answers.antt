-- The divisor's leading coefficient begins no higher than the dividend's.
use Rattle.std.proofs.Common.{◌^◌, ◌≤◌, drop, sym, ap, ◌∙◌, ap₂, arith}
use Rattle.terms.specs.LeadingTerms.{lowered, count_below}
use Rattle.packed.specs.Terms.{terms_in}
use Rattle.packed.proofs.Leading.{below-most, rising-above, leading_gap, leading_raised}
use Rattle.packed.proofs.Lowered.{view-rising}
use Rattle.packed.proofs.stretch.Stretch.leading_over.Goals as goal

pub invariant_of-result : goal.invariant_of-result
invariant_of-result c =
    let gap = leading_gap c.args.others.count (terms_in c.args.divisor) (terms_in c.args.dividend) c.requires.real c.requires.over in
    let low : c.leading_key-2.result ≤ c.leading_key.result = omega (arith, gap, c.leading_key-2.ensures.value, c.leading_key.ensures.value) in record {
      inside = omega (arith, c.count_below-from.ensures, below-most c.leading_key.result (terms_in c.args.dividend));
      above = λ i h l.
          let g = rising-above 0 (2 ^ 19) c.leading_key.result (terms_in c.args.dividend) i (view-rising c.args.dividend) (omega (arith, c.count_below-from.ensures, h)) l in
          omega (arith, low, g);
    }

pub returns : goal.returns
returns c =
    ap₂ (λ d n. lowered d (drop n (terms_in c.args.dividend))) c.leading_key-2.ensures.value
    (c.count_below-from.ensures ∙ ap (λ b. count_below b (terms_in c.args.dividend)) c.leading_key.ensures.value) ∙
    sym (leading_raised 0 (2 ^ 19) c.args.others.count (terms_in c.args.divisor) (terms_in c.args.dividend) (view-rising c.args.dividend) c.requires.real c.requires.over)
