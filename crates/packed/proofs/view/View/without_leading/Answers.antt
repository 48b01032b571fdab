-- The first numbers of a stored polynomial are a stored polynomial.
use Rattle.std.proofs.Common.{◌≡◌, ◌-◌, take, ap, ◌∙◌, arith}
use Rattle.terms.specs.LeadingTerms.{count_below}
use Rattle.packed.specs.Terms.{terms_in}
use Rattle.packed.proofs.Places.{length-monomials}
use Rattle.packed.proofs.StoredTest.{test-stored}
use Rattle.packed.proofs.Leading.{stored-take, take-monomials, below-most}
use Rattle.packed.proofs.view.View.without_leading.Goals as goal

pub new-requires : goal.new-requires
new-requires c = stored-take c.args.self.cells.now (c.count_below-count.result - 0) (test-stored c.args.self.cells.now c.args.self.stored)

pub slice_bounds-new-end : goal.slice_bounds-new-end
slice_bounds-new-end c = omega (arith, c.count_below-count.ensures, below-most c.leading_key.result (terms_in c.args.self), length-monomials c.args.self.cells.now)

pub returns : goal.returns
returns c =
    let e : c.count_below-count.result - 0 ≡ c.count_below-count.result = omega arith in
    c.new.ensures ∙ take-monomials c.args.self.cells.now (c.count_below-count.result - 0) ∙
    ap (λ n. take n (terms_in c.args.self)) (e ∙ c.count_below-count.ensures ∙ ap (λ b. count_below b (terms_in c.args.self)) c.leading_key.ensures.value)
