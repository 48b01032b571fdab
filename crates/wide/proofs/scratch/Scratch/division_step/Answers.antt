-- Two products are added up.
use Rattle.std.proofs.Common.{[], refl, ap, ◌∙◌, ap₂}
use Rattle.terms.specs.Operations.{add_product, neg_terms}
use Rattle.packed.proofs.Lowered.{view-rising}
use Rattle.wide.proofs.Rising.{stretch_rising, product-rising, none_rising}
use Rattle.packed.specs.Terms.{terms_in}
use Rattle.packed.specs.StretchTerms.{stretch_terms}
use Rattle.wide.proofs.Multiplying.{none_written, one_product}
use Rattle.wide.proofs.Factors.{view-factor, stretch_factor}
use Rattle.wide.proofs.scratch.Scratch.division_step.Goals as goal

pub add_product-requires : goal.add_product-requires
add_product-requires c = none_written _ c.clear.ensures

pub add_product-requires-2 : goal.add_product-requires-2
add_product-requires-2 c =
    one_product (stretch_terms c.leading.result) (terms_in c.args.dividend) _ (stretch_factor c.leading.result) (view-factor c.args.dividend)
    (c.add_product.ensures ∙ ap (add_product (stretch_terms c.leading.result) (terms_in c.args.dividend)) c.clear.ensures)

pub returns : goal.returns
returns c =
    let n = c.args.others.count in
    let p = terms_in c.args.divisor in
    let s = terms_in c.args.dividend in
    let first = c.add_product.ensures ∙ ap (add_product (stretch_terms c.leading.result) s) c.clear.ensures in
    let one = product-rising (stretch_terms c.leading.result) s [] _ first (stretch_rising c.leading.result) (view-rising c.args.dividend) (none_rising [] refl) in
    let two = product-rising (stretch_terms c.negated.result) p _ _ c.add_product-2.ensures (stretch_rising c.negated.result) (view-rising c.args.divisor) one in
    record {
      value = c.add_product-2.ensures ∙ ap₂ (λ w acc. add_product w p acc) (c.negated.ensures ∙ ap neg_terms c.leading_over.ensures) (first ∙ ap (λ w. add_product w s []) c.leading.ensures);
      rising = two;
    }
