-- One merge for each monomial of the stretch, from the last to the first.
use Rattle.std.proofs.Common.{[], ◌∷◌, ◌++◌, sym, ap, ◌∙◌, append-nil, append_assoc, arith}
use Rattle.terms.specs.Operations.{add_product}
use Rattle.packed.specs.Terms.{terms_in, monomial_in}
use Rattle.packed.specs.StretchTerms.{stretch_terms}
use Rattle.wide.specs.Written.{written}
use Rattle.wide.proofs.Multiplying.{product_none, product-step, product_addable}
use Rattle.wide.proofs.Factors.{view-factor, stretch_factor}
use Rattle.wide.proofs.scratch.Scratch.add_product.Goals as goal

pub loop-term-init : goal.loop-term-init
loop-term-init c = (
  [],
  append-nil _ ∙ ap (λ r. r.iter) c.into_iter-term-iterator.ensures.into_iter_gives ∙ c.rev-term-items.ensures.source ∙ c.terms.ensures,
  sym (product_none [] (terms_in c.args.polynomial) (written c.args.self.now.front) 0 (omega arith)),
)

-- the last of those that are left stands before those that are done
pub add_scaled-requires : goal.add_scaled-requires
add_scaled-requires c =
    let m = monomial_in c.in-Some.term in
    let last = c.loop-term.invariant.0 in
    product_addable (stretch_terms c.args.stretch) (terms_in c.args.polynomial) (written c.args.self.now.front) (stretch_factor c.args.stretch) (view-factor c.args.polynomial)
    c.requires c.next.new.self.iter m last _
    (sym (append_assoc c.next.new.self.iter (m ∷ []) last) ∙ ap (λ w. w ++ last) (sym c.in-Some.ensures.steps) ∙ c.loop-term.invariant.1)
    c.loop-term.invariant.2

pub loop-term-preserved : goal.loop-term-preserved
loop-term-preserved c =
    let m = monomial_in c.in-Some.term in
    let last = c.loop-term.invariant.0 in (
      m ∷ last,
      sym (append_assoc c.next.new.self.iter (m ∷ []) last) ∙ ap (λ w. w ++ last) (sym c.in-Some.ensures.steps) ∙ c.loop-term.invariant.1,
      product-step (terms_in c.args.polynomial) (written c.args.self.now.front) m last _ _ c.loop-term.invariant.2 c.add_scaled.ensures,
    )

pub returns : goal.returns
returns c =
    let all = ap (λ w. w ++ c.loop-term.invariant.0) (sym c.in-None.ensures.steps.0) ∙ c.loop-term.invariant.1 in
    c.loop-term.invariant.2 ∙ ap (λ w. add_product w (terms_in c.args.polynomial) (written c.args.self.now.front)) all
