-- By its first letter.
use Rattle.std.proofs.Common.{sym, ap, ◌∙◌, arith}
use Rattle.std.proofs.lemmas.Bool.{ne_eqb}
use Rattle.grammar.specs.Reader.{run}
use Rattle.grammar.specs.Text.{quantifier_of}
use Rattle.grammar.proofs.Runs.{goes_on, stops}
use Rattle.words.specs.Quantifier.{over_all}
use Rattle.text.proofs.Exits.{handed_on_as}
use Rattle.text.proofs.Steps.{passed_over}
use Rattle.text.proofs.source.Source.quantifier.Goals as goal

pub returns-in_err-keyword-in-101 : goal.returns-in_err-keyword-in-101
unfolding quantifier_of
returns-in_err-keyword-in-101 c =
    ap (λ d. run (quantifier_of d) c.args.self.now.text.now c.args.at.now) (sym c.front.ensures ∙ c.in-101.is) ∙ stops _ _ _ _ _ c.in_err-keyword-in-101.ensures ∙ handed_on_as over_all c.from_residual.result _ _ c.from_residual.ensures.1

pub returns-in_ok-keyword-in-101 : goal.returns-in_ok-keyword-in-101
unfolding quantifier_of run
returns-in_ok-keyword-in-101 c = ap (λ d. run (quantifier_of d) c.args.self.now.text.now c.args.at.now) (sym c.front.ensures ∙ c.in-101.is) ∙ goes_on _ _ _ _ _ _ c.in_ok-keyword-in-101.ensures

pub returns-in_err-keyword-in_default : goal.returns-in_err-keyword-in_default
unfolding quantifier_of
returns-in_err-keyword-in_default c =
    ap (λ d. run (quantifier_of d) c.args.self.now.text.now c.args.at.now) (sym c.front.ensures) ∙ passed_over _ _ _ _ _ (ne_eqb c.front.result 101 (λ e. omega (arith, e))) ∙
    stops _ _ _ _ _ c.in_err-keyword-in_default.ensures ∙ handed_on_as over_all c.from_residual-in_err-keyword-in_default.result _ _ c.from_residual-in_err-keyword-in_default.ensures.1

pub returns-in_ok-keyword-in_default : goal.returns-in_ok-keyword-in_default
unfolding quantifier_of run
returns-in_ok-keyword-in_default c =
    ap (λ d. run (quantifier_of d) c.args.self.now.text.now c.args.at.now) (sym c.front.ensures) ∙ passed_over _ _ _ _ _ (ne_eqb c.front.result 101 (λ e. omega (arith, e))) ∙ goes_on _ _ _ _ _ _ c.in_ok-keyword-in_default.ensures
