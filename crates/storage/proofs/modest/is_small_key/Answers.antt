-- The lowest digit, and then the others.
use Rattle.std.proofs.Common.{◌≡◌, ◌+◌, ◌-◌, ◌/◌, sym, ap, ◌∙◌, arith}
use Rattle.terms.specs.ModestTerms.{small_key}
use Rattle.storage.proofs.ModestSteps.{small_done, small-over, small-next}
use Rattle.storage.proofs.modest.is_small_key.Goals as goal

pub returns-then-rest-gt8 : goal.returns-then-rest-gt8
returns-then-rest-gt8 c = sym (small-over (4 - c.loop.counter) c.loop.rest (omega (arith, c.loop-test.true)) c.if-rest-gt8.true) ∙ c.loop.invariant

pub loop-preserved : goal.loop-preserved
loop-preserved c =
    let e : 4 - (c.loop.counter + 1) ≡ 4 - c.loop.counter - 1 = omega arith in
    ap (λ d. small_key d (c.loop.rest / 32)) e ∙ sym (small-next (4 - c.loop.counter) c.loop.rest (omega (arith, c.loop-test.true)) c.if-rest-gt8.false) ∙ c.loop.invariant

pub returns : goal.returns
returns c = sym (small_done (4 - c.loop.counter) c.loop.rest (omega (arith, c.loop-test.false))) ∙ c.loop.invariant
