-- The monomials that have the first variable, one at a time.
use Rattle.std.proofs.Common.{◌-◌, ◌^◌, ◌++◌, [], ◌∷◌, length, drop, sym, ap, ◌∙◌, subst, ap₂, append-nil, arith, length-append, length-drop}
use Rattle.terms.specs.Monomial.{Rising}
use Rattle.terms.specs.Sizes.{SizesAtMost}
use Rattle.terms.specs.LeadingTerms.{slopes, count_below}
use Rattle.packed.specs.Terms.{terms_in, monomial_in}
use Rattle.packed.proofs.Leading.{below-most, high-left}
use Rattle.packed.proofs.Lowered.{view-rising, view-sizes, view-short, drop-sizes}
use Rattle.packed.proofs.Walked.{rising-next, sizes-next}
use Rattle.wide.proofs.Rising.{derivative-rising, wider}
use Rattle.wide.specs.Written.{written}
use Rattle.wide.specs.Slopes.{slope_by}
use Rattle.wide.proofs.Slopes.{slopes_none, slopes-next}
use Rattle.wide.proofs.scratch.Scratch.derivative.Goals as goal

pub terms_from-term-items-requires : goal.terms_from-term-items-requires
terms_from-term-items-requires c = omega (arith, c.count_below.ensures, below-most c.digit_place-place.result (terms_in c.args.polynomial))

pub loop-term-init : goal.loop-term-init
loop-term-init c =
    let n = c.args.others.count in
    let ts = terms_in c.args.polynomial in
    let from = count_below (32 ^ n) ts in
    let all =
    c.into_iter-term-iterator.ensures.into_iter_gives ∙ c.terms_from-term-items.ensures ∙
    ap (λ k. drop k ts) (c.count_below.ensures ∙ ap (λ b. count_below b ts) c.digit_place-place.ensures.value) in (
      ap₂ (λ v w. v ++ slopes n w) c.clear.ensures all,
      omega (arith, ap length c.clear.ensures, ap length all, length-drop from ts, view-short c.args.polynomial),
      subst (Rising (32 ^ n) (2 ^ 19)) (sym all) (high-left 0 (2 ^ 19) (32 ^ n) ts (view-rising c.args.polynomial)),
      subst (SizesAtMost (2 ^ 27 - 1)) (sym all) (drop-sizes (2 ^ 27 - 1) from ts (view-sizes c.args.polynomial)),
    )

pub slope-requires : goal.slope-requires
slope-requires c =
    let rising = rising-next (32 ^ c.args.others.count) (2 ^ 19) c.loop-term.term-iterator _ (monomial_in c.in-Some.term) c.in-Some.ensures.steps c.loop-term.invariant.2 in
    let sizes = sizes-next (2 ^ 27 - 1) c.loop-term.term-iterator _ (monomial_in c.in-Some.term) c.in-Some.ensures.steps c.loop-term.invariant.3 in
    record {
      place = c.digit_place-place.ensures.bound.0;
      key = (omega (arith, rising.0, c.digit_place-place.ensures.value), rising.1);
      size = omega (arith, sizes.0);
    }

pub push-requires : goal.push-requires
push-requires c = (omega (arith, ap length c.in-Some.ensures.steps, c.loop-term.invariant.1), omega (arith, c.slope.ensures.bound))

pub loop-term-preserved : goal.loop-term-preserved
loop-term-preserved c =
    let rising = rising-next (32 ^ c.args.others.count) (2 ^ 19) c.loop-term.term-iterator _ (monomial_in c.in-Some.term) c.in-Some.ensures.steps c.loop-term.invariant.2 in
    let sizes = sizes-next (2 ^ 27 - 1) c.loop-term.term-iterator _ (monomial_in c.in-Some.term) c.in-Some.ensures.steps c.loop-term.invariant.3 in (
      slopes-next c.args.others.count c.loop-term.term-iterator _ (written c.loop-term.self.front) _ (monomial_in c.in-Some.term) (monomial_in c.slope.result)
          c.in-Some.ensures.steps (c.slope.ensures.value ∙ ap (λ p. slope_by p (monomial_in c.in-Some.term)) c.digit_place-place.ensures.value) c.push.ensures ∙
          c.loop-term.invariant.0,
      omega (
        arith,
        ap length c.push.ensures,
        length-append (written c.loop-term.self.front) (monomial_in c.slope.result ∷ []),
        ap length c.in-Some.ensures.steps,
        c.loop-term.invariant.1,
      ),
      rising.2,
      sizes.1,
    )

pub returns : goal.returns
returns c =
    let n = c.args.others.count in
    let out = written c.loop-term.self.front in
    let e = sym (append-nil out) ∙ ap (λ w. out ++ w) (sym (ap (slopes n) c.in-None.ensures.steps.0 ∙ slopes_none n)) ∙ c.loop-term.invariant.0 in
    record { value = e; rising = wider _ _ e (derivative-rising n (2 ^ 19) (terms_in c.args.polynomial) (view-rising c.args.polynomial)) }
