-- A monomial at a time.
use Rattle.std.proofs.Common.{◌^◌, ◌++◌, sym, ap, ◌∙◌, subst, ap₂, append-nil, arith}
use Rattle.terms.specs.Sizes.{KeysBelow}
use Rattle.packed.specs.StretchTerms.{stretch_terms}
use Rattle.packed.specs.Terms.{monomial_in}
use Rattle.packed.proofs.Lowered.{stretch_keys, stretch_short}
use Rattle.packed.proofs.Walked.{moved, fewer-taken, keys-next}
use Rattle.wide.specs.Written.{written}
use Rattle.wide.proofs.Rising.{stretch_rising, wider}
use Rattle.wide.proofs.scratch.Scratch.copy.Goals as goal

pub loop-term-init : goal.loop-term-init
loop-term-init c =
    let all = c.into_iter-term-iterator.ensures.into_iter_gives ∙ c.terms-term-items.ensures in
    (ap₂ (λ v w. v ++ w) c.clear.ensures all, subst (KeysBelow (2 ^ 19)) (sym all) (stretch_keys c.args.stretch))

pub push-requires : goal.push-requires
push-requires c = (
  omega (
    arith,
    fewer-taken (written c.loop-term.self.front) c.loop-term.term-iterator _ (stretch_terms c.args.stretch) (monomial_in c.in-Some.term) c.in-Some.ensures.steps c.loop-term.invariant.0,
    stretch_short c.args.stretch,
  ),
  omega (arith, (keys-next (2 ^ 19) c.loop-term.term-iterator _ (monomial_in c.in-Some.term) c.in-Some.ensures.steps c.loop-term.invariant.1).0),
)

pub loop-term-preserved : goal.loop-term-preserved
loop-term-preserved c = (
  moved (written c.loop-term.self.front) _ c.loop-term.term-iterator _ (monomial_in c.in-Some.term) c.in-Some.ensures.steps c.push.ensures ∙ c.loop-term.invariant.0,
  (keys-next (2 ^ 19) c.loop-term.term-iterator _ (monomial_in c.in-Some.term) c.in-Some.ensures.steps c.loop-term.invariant.1).1,
)

pub returns : goal.returns
returns c =
    let ts = stretch_terms c.args.stretch in
    let e = sym (append-nil (written c.loop-term.self.front)) ∙ ap (λ w. written c.loop-term.self.front ++ w) (sym c.in-None.ensures.steps.0) ∙ c.loop-term.invariant.0 in
    record { value = e; rising = wider _ ts e (stretch_rising c.args.stretch) }
