-- The counts add up, from the last monomial to the first.
use Rattle.std.proofs.Common.{[], ◌∷◌, ◌++◌, length, sym, refl, ap, ◌∙◌, append-nil, append_assoc, arith, length-append}
use Rattle.terms.specs.ModestTerms.{last_digits}
use Rattle.packed.specs.Terms.{monomial_in}
use Rattle.wide.proofs.Written.{written-most}
use Rattle.storage.proofs.ModestSteps.{digits_none, digits-before}
use Rattle.storage.proofs.modest.number_count.Goals as goal

pub loop-term-init : goal.loop-term-init
loop-term-init c = (
  [],
  append-nil _ ∙ ap (λ r. r.iter) c.into_iter-term-iterator.ensures.into_iter_gives ∙ c.rev-term-items.ensures.source ∙ c.terms.ensures,
  sym digits_none,
  omega arith,
  refl,
)

pub overflow_add-count : goal.overflow_add-count
overflow_add-count c =
    let last = c.loop-term.invariant.0 in
    record {
      fits =
          omega (
            arith,
            c.numbers-count.ensures.bound,
            c.loop-term.invariant.3,
            length-append c.loop-term.term-iterator.iter last,
            ap length c.loop-term.invariant.1,
            written-most c.args.list.now,
          );
    }

pub loop-term-preserved : goal.loop-term-preserved
loop-term-preserved c =
    let m = monomial_in c.in-Some.term in
    let last = c.loop-term.invariant.0 in
    let step = digits-before c.in-Some.term c.loop-term.next last c.numbers-count.result c.loop-term.invariant.4 c.numbers-count.ensures.value in (
      m ∷ last,
      sym (append_assoc c.next.new.self.iter (m ∷ []) last) ∙ ap (λ w. w ++ last) (sym c.in-Some.ensures.steps) ∙ c.loop-term.invariant.1,
      omega (arith, step, c.loop-term.invariant.2),
      omega (arith, c.numbers-count.ensures.bound, c.loop-term.invariant.3),
      (last, refl),
    )

pub returns : goal.returns
returns c =
    let all = ap (λ w. w ++ c.loop-term.invariant.0) (sym c.in-None.ensures.steps.0) ∙ c.loop-term.invariant.1 in
    c.loop-term.invariant.2 ∙ ap last_digits all
