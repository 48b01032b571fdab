-- Nothing is written before.
use Rattle.std.proofs.Common.{[], refl, ◌∙◌, ap₂}
use Rattle.terms.specs.Operations.{add_product}
use Rattle.packed.specs.Terms.{terms_in}
use Rattle.packed.proofs.Lowered.{view-rising}
use Rattle.wide.proofs.Rising.{product-rising, none_rising}
use Rattle.wide.proofs.Multiplying.{none_written}
use Rattle.wide.proofs.scratch.Scratch.product.Goals as goal

pub add_product-requires : goal.add_product-requires
add_product-requires c = none_written _ c.clear.ensures

pub returns : goal.returns
returns c =
    let e = c.add_product.ensures ∙ ap₂ (λ p acc. add_product p (terms_in c.args.right) acc) c.whole.ensures c.clear.ensures in
    record { value = e; rising = product-rising (terms_in c.args.left) (terms_in c.args.right) [] _ e (view-rising c.args.left) (view-rising c.args.right) (none_rising [] refl) }
