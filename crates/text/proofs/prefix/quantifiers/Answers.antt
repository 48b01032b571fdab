-- Quantifiers one by one.
use Rattle.std.proofs.Common.{ap, sym, refl, ◌∙◌, arith}
use Rattle.grammar.specs.Text.{is_quantifier_letter, prefix_for, quantifiers}
use Rattle.grammar.proofs.Runs.{while_goes, while_stops, while-ended, while-over}
use Rattle.text.specs.Prefix.{prefix_of}
use Rattle.text.proofs.Exits.{handed_on_as}
use Rattle.text.proofs.prefix.quantifiers.Goals as goal

pub loop-turn-init : goal.loop-turn-init
unfolding quantifiers
loop-turn-init c = (refl, refl)

pub returns-then-not-begins_quantifier : goal.returns-then-not-begins_quantifier
unfolding prefix_for
returns-then-not-begins_quantifier c =
    c.loop-turn.invariant.0 ∙ while-ended _ _ _ _ _ _
    (ap is_quantifier_letter (sym c.front.ensures) ∙ sym c.if-not-begins_quantifier.ensures)

pub returns-in_err-prefix : goal.returns-in_err-prefix
unfolding prefix_for
returns-in_err-prefix c =
    let begins = ap is_quantifier_letter (sym c.front.ensures) ∙ sym c.if-not-begins_quantifier.ensures in
    c.loop-turn.invariant.0 ∙ while_stops _ _ _ _ _ _ _ _ c.loop-turn-test.true begins c.in_err-prefix.ensures.value ∙ handed_on_as prefix_of c.from_residual.result _ _ c.from_residual.ensures.1

pub loop-turn-preserved : goal.loop-turn-preserved
unfolding prefix_for
loop-turn-preserved c =
    let begins = ap is_quantifier_letter (sym c.front.ensures) ∙ sym c.if-not-begins_quantifier.ensures in
    let n = c.in_ok-prefix.ensures in
    (c.loop-turn.invariant.0 ∙ while_goes _ _ _ _ _ _ _ _ _ c.loop-turn-test.true begins n.value, omega (arith, n.count, c.loop-turn.invariant.1))

pub returns : goal.returns
unfolding prefix_for
returns c = c.loop-turn.invariant.0 ∙ while-over _ _ _ _ _ _ _ c.loop-turn-test.false
