-- Each turn of the loop is a step of the division.
use Rattle.std.proofs.Common.{◌≡◌, ◌+◌, ◌-◌, ◌<◌, sym, ap, ◌∙◌, subst, arith}
use Rattle.terms.specs.LeadingTerms.{length_terms}
use Rattle.storage.specs.Spans.{Holds, terms_at}
use Rattle.storage.specs.Dividing.{Dividing, Divided, Refused}
use Rattle.storage.proofs.Dividing.{holds_kept, still, step_still, fails_still, ended_still, out_of_fuel, refused_result, span}
use Rattle.storage.proofs.remainder.Divisor.divide.Goals as goal

pub has_step-requires : goal.has_step-requires
has_step-requires c =
    let low = subst (λ m. Holds c.args.self.span m c.args.arena.now.cells.now) (sym c.top-mark.ensures) c.requires.divisor.0 in
    record { spans = (holds_kept c.args.self.span c.top-mark.result c.args.arena.now.cells.now _ _ low c.loop-steps.invariant.0.untouched, c.loop-steps.invariant.0.holds) }

pub divide_once-requires-clause-spans : goal.divide_once-requires-clause-spans
divide_once-requires-clause-spans c =
    let low = subst (λ m. Holds c.args.self.span m c.args.arena.now.cells.now) (sym c.top-mark.ensures) c.requires.divisor.0 in
    (holds_kept c.args.self.span c.top-mark.result c.args.arena.now.cells.now _ _ low c.loop-steps.invariant.0.untouched, c.loop-steps.invariant.0.holds)

pub divide_once-requires-clause-real : goal.divide_once-requires-clause-real
divide_once-requires-clause-real c =
    let n = c.args.self.others.count in
    let cells = c.args.arena.now.cells.now in
    let ss = terms_at c.args.dividend cells in
    let low = subst (λ m. Holds c.args.self.span m cells) (sym c.top-mark.ensures) c.requires.divisor.0 in
    let same = still n c.args.self.span ss c.top-mark.result cells c.args.self.few low (length_terms n ss + 1 - c.loop-steps.steps) c.loop-steps.steps c.loop-steps.rest c.loop-steps.arena.top c.loop-steps.arena.cells.now c.loop-steps.invariant.0 in
    subst (λ ts. 0 < length_terms n ts) (sym same) c.requires.real

pub returns-in_err-count-clause-value : goal.returns-in_err-count-clause-value
returns-in_err-count-clause-value c =
    let n = c.args.self.others.count in
    let cells = c.args.arena.now.cells.now in
    let ps = terms_at c.args.self.span cells in
    let ss = terms_at c.args.dividend cells in
    let low = subst (λ m. Holds c.args.self.span m cells) (sym c.top-mark.ensures) c.requires.divisor.0 in
    let fuel = length_terms n ss + 1 - c.loop-steps.steps in
    let all : c.coefficient_count-most.result ≡ length_terms n ss = c.coefficient_count-most.ensures.value ∙ ap (length_terms n) c.view.ensures in
    let more : 0 < fuel = omega (arith, all, c.loop-steps-test.true) in
    let f = fails_still n c.args.self.span ss c.top-mark.result cells c.args.self.few low fuel c.loop-steps.steps c.loop-steps.rest c.loop-steps.arena.top c.loop-steps.arena.cells.now c.loop-steps.invariant.0
    c.divide_once.new.arena.top c.divide_once.new.arena.cells.now more c.if-not-has_step.ensures c.in_err-count.ensures.stored.0 c.in_err-count.ensures.stored.1 in
    refused_result c.from_residual.result n ps ss c.args.arena.now.top cells _ _ c.from_residual.ensures.0
    (subst (λ m. Refused n ps ss m cells c.divide_once.new.arena.top c.divide_once.new.arena.cells.now) c.top-mark.ensures f)

pub loop-steps-preserved : goal.loop-steps-preserved
loop-steps-preserved c =
    let n = c.args.self.others.count in
    let cells = c.args.arena.now.cells.now in
    let ps = terms_at c.args.self.span cells in
    let ss = terms_at c.args.dividend cells in
    let low = subst (λ m. Holds c.args.self.span m cells) (sym c.top-mark.ensures) c.requires.divisor.0 in
    let fuel = length_terms n ss + 1 - c.loop-steps.steps in
    let all : c.coefficient_count-most.result ≡ length_terms n ss = c.coefficient_count-most.ensures.value ∙ ap (length_terms n) c.view.ensures in
    let more : 0 < fuel = omega (arith, all, c.loop-steps-test.true) in
    let less : fuel - 1 ≡ length_terms n ss + 1 - (c.loop-steps.steps + 1) = omega arith in (
      subst (λ k. Dividing n ps ss c.top-mark.result cells (length_terms n ss + 1) k (c.loop-steps.steps + 1) (span c.top-mark.result c.in_ok-count.count) c.divide_once.new.arena.top c.divide_once.new.arena.cells.now) less
          (step_still n c.args.self.span ss c.top-mark.result cells c.args.self.few low fuel c.loop-steps.steps c.loop-steps.rest c.loop-steps.arena.top c.loop-steps.arena.cells.now c.loop-steps.invariant.0
          c.in_ok-count.count c.divide_once.new.arena.top c.divide_once.new.arena.cells.now more c.if-not-has_step.ensures
          (omega (arith, c.loop-steps.invariant.0.untouched.long, c.top-mark.ensures, c.requires.room)) c.in_ok-count.ensures.stored),
      c.in_ok-count.ensures.lent ∙ c.loop-steps.invariant.1,
    )

pub returns-then-not-has_step-clause-value : goal.returns-then-not-has_step-clause-value
returns-then-not-has_step-clause-value c =
    let n = c.args.self.others.count in
    let cells = c.args.arena.now.cells.now in
    let ps = terms_at c.args.self.span cells in
    let ss = terms_at c.args.dividend cells in
    let low = subst (λ m. Holds c.args.self.span m cells) (sym c.top-mark.ensures) c.requires.divisor.0 in
    let fuel = length_terms n ss + 1 - c.loop-steps.steps in
    let d = ended_still n c.args.self.span ss c.top-mark.result cells c.args.self.few low fuel c.loop-steps.steps c.loop-steps.rest c.loop-steps.arena.top c.loop-steps.arena.cells.now c.loop-steps.invariant.0 c.if-not-has_step.ensures in
    subst (λ m. Divided n ps ss m cells c.loop-steps.steps c.loop-steps.rest c.loop-steps.arena.top c.loop-steps.arena.cells.now) c.top-mark.ensures d

pub returns-clause-value : goal.returns-clause-value
returns-clause-value c =
    let n = c.args.self.others.count in
    let cells = c.args.arena.now.cells.now in
    let ps = terms_at c.args.self.span cells in
    let ss = terms_at c.args.dividend cells in
    let fuel = length_terms n ss + 1 - c.loop-steps.steps in
    let all : c.coefficient_count-most.result ≡ length_terms n ss = c.coefficient_count-most.ensures.value ∙ ap (length_terms n) c.view.ensures in
    let d = out_of_fuel n ps ss c.top-mark.result cells c.args.self.few fuel c.loop-steps.steps c.loop-steps.rest c.loop-steps.arena.top c.loop-steps.arena.cells.now c.loop-steps.invariant.0 (omega (arith, all, c.loop-steps-test.false)) in
    let e : c.loop-steps.steps ≡ c.coefficient_count-most.result + 1 = omega (arith, c.loop-steps-test.false, c.loop-steps.auto.steps-end) in
    subst (λ m. Divided n ps ss m cells (c.coefficient_count-most.result + 1) c.loop-steps.rest c.loop-steps.arena.top c.loop-steps.arena.cells.now) c.top-mark.ensures
    (subst (λ k. Divided n ps ss c.top-mark.result cells k c.loop-steps.rest c.loop-steps.arena.top c.loop-steps.arena.cells.now) e d)
