-- The list is copied a monomial at a time.
use Rattle.std.proofs.Common.{◌^◌, ◌++◌, drop, sym, ap, ◌∙◌, subst, append-nil, arith, length-append, length-drop}
use Rattle.terms.specs.Sizes.{KeysBelow}
use Rattle.packed.specs.Terms.{monomial_in}
use Rattle.packed.proofs.Lowered.{drop-keys}
use Rattle.packed.proofs.Walked.{moved, fewer-taken, keys-next}
use Rattle.wide.specs.Written.{written}
use Rattle.wide.proofs.wide.Wide.append.Goals as goal

pub loop-term-init : goal.loop-term-init
loop-term-init c =
    let all = c.into_iter-term-iterator.ensures.into_iter_gives ∙ c.terms_from-term-items.ensures in (
      ap (λ w. written c.args.self.now ++ w) all,
      subst (KeysBelow (2 ^ 63)) (sym all) (drop-keys (2 ^ 63) c.args.from (written c.args.list.now) c.requires.keys),
    )

pub push-requires : goal.push-requires
push-requires c =
    let all = written c.args.self.now ++ drop c.args.from (written c.args.list.now) in (
      omega (
        arith,
        fewer-taken (written c.loop-term.self) c.loop-term.term-iterator _ all (monomial_in c.in-Some.term) c.in-Some.ensures.steps c.loop-term.invariant.0,
        length-append (written c.args.self.now) (drop c.args.from (written c.args.list.now)),
        length-drop c.args.from (written c.args.list.now),
        c.requires.room,
      ),
      (keys-next (2 ^ 63) c.loop-term.term-iterator _ (monomial_in c.in-Some.term) c.in-Some.ensures.steps c.loop-term.invariant.1).0,
    )

pub loop-term-preserved : goal.loop-term-preserved
loop-term-preserved c = (
  moved (written c.loop-term.self) _ c.loop-term.term-iterator _ (monomial_in c.in-Some.term) c.in-Some.ensures.steps c.push.ensures ∙ c.loop-term.invariant.0,
  (keys-next (2 ^ 63) c.loop-term.term-iterator _ (monomial_in c.in-Some.term) c.in-Some.ensures.steps c.loop-term.invariant.1).1,
)

pub returns : goal.returns
returns c = sym (append-nil (written c.loop-term.self)) ∙ ap (λ w. written c.loop-term.self ++ w) (sym c.in-None.ensures.steps.0) ∙ c.loop-term.invariant.0
