-- One polynomial is copied, and the other added.
use Rattle.std.proofs.Common.{◌^◌, pos, sym, ◌∙◌, subst, ap₂, arith}
use Rattle.terms.specs.Monomial.{monomial}
use Rattle.terms.specs.Operations.{add_terms}
use Rattle.packed.specs.Terms.{terms_in}
use Rattle.terms.proofs.Rises.{rising-add}
use Rattle.packed.proofs.Lowered.{view-rising}
use Rattle.wide.proofs.Rising.{wider}
use Rattle.wide.proofs.Multiplying.{Factor, factors_addable, scaled-one}
use Rattle.wide.proofs.Factors.{view-factor}
use Rattle.wide.proofs.scratch.Scratch.sum.Goals as goal

pub add_scaled-requires : goal.add_scaled-requires
add_scaled-requires c =
    factors_addable (monomial 0 (pos 1)) (terms_in c.args.left) _ (omega arith) (omega arith) (view-factor c.args.left)
    (subst Factor (sym (c.copy.ensures.value ∙ c.whole.ensures)) (view-factor c.args.right))

pub returns : goal.returns
returns c =
    let e = c.add_scaled.ensures ∙ ap₂ add_terms (scaled-one (terms_in c.args.left)) (c.copy.ensures.value ∙ c.whole.ensures) in
    record { value = e; rising = wider _ _ e (rising-add 0 (2 ^ 19) (terms_in c.args.left) (terms_in c.args.right) (view-rising c.args.left) (view-rising c.args.right)) }
