-- By the first sign.
use Rattle.std.proofs.Common.{sym, ap, ◌∙◌, arith}
use Rattle.std.proofs.lemmas.Bool.{ne_eqb}
use Rattle.grammar.specs.Formulas.{relation_of, or_equal}
use Rattle.grammar.specs.Reader.{run}
use Rattle.grammar.proofs.Runs.{goes_on, stops}
use Rattle.text.proofs.Exits.{handed_on_lem}
use Rattle.text.proofs.Steps.{passed_over}
use Rattle.grammar.specs.declared.relation.Relation.TheVariants.{Below, AtMost, Above, AtLeast}
use Rattle.text.proofs.source.Source.relation.Goals as goal

pub returns-in-60 : goal.returns-in-60
unfolding relation_of run
returns-in-60 c = ap (λ d. run (relation_of d) c.args.self.now.text.now c.args.at.now) (sym c.front.ensures ∙ c.in-60.is) ∙ ap (λ n. run (or_equal Below AtMost) c.args.self.now.text.now n) (sym c.pass.ensures) ∙ c.or_equal.ensures

pub returns-in-62 : goal.returns-in-62
unfolding relation_of run
returns-in-62 c = ap (λ d. run (relation_of d) c.args.self.now.text.now c.args.at.now) (sym c.front.ensures ∙ c.in-62.is) ∙ ap (λ n. run (or_equal Above AtLeast) c.args.self.now.text.now n) (sym c.pass-in-62.ensures) ∙ c.or_equal-in-62.ensures

pub returns-in_err-sign-in-61 : goal.returns-in_err-sign-in-61
unfolding relation_of
returns-in_err-sign-in-61 c = ap (λ d. run (relation_of d) c.args.self.now.text.now c.args.at.now) (sym c.front.ensures ∙ c.in-61.is) ∙ stops _ _ _ _ _ c.in_err-sign-in-61.ensures ∙ handed_on_lem c.from_residual.result _ _ c.from_residual.ensures.1

pub returns-in_ok-sign-in-61 : goal.returns-in_ok-sign-in-61
unfolding relation_of run
returns-in_ok-sign-in-61 c = ap (λ d. run (relation_of d) c.args.self.now.text.now c.args.at.now) (sym c.front.ensures ∙ c.in-61.is) ∙ goes_on _ _ _ _ _ _ c.in_ok-sign-in-61.ensures

pub returns-in_err-sign-in_default : goal.returns-in_err-sign-in_default
unfolding relation_of
returns-in_err-sign-in_default c =
    ap (λ d. run (relation_of d) c.args.self.now.text.now c.args.at.now) (sym c.front.ensures) ∙ passed_over _ _ _ _ _ (ne_eqb c.front.result 60 (λ e. omega (arith, e))) ∙ passed_over _ _ _ _ _ (ne_eqb c.front.result 62 (λ e. omega (arith, e))) ∙ passed_over _ _ _ _ _ (ne_eqb c.front.result 61 (λ e. omega (arith, e))) ∙
    stops _ _ _ _ _ c.in_err-sign-in_default.ensures ∙ handed_on_lem c.from_residual-in_err-sign-in_default.result _ _ c.from_residual-in_err-sign-in_default.ensures.1

pub returns-in_ok-sign-in_default : goal.returns-in_ok-sign-in_default
unfolding relation_of run
returns-in_ok-sign-in_default c =
    ap (λ d. run (relation_of d) c.args.self.now.text.now c.args.at.now) (sym c.front.ensures) ∙ passed_over _ _ _ _ _ (ne_eqb c.front.result 60 (λ e. omega (arith, e))) ∙ passed_over _ _ _ _ _ (ne_eqb c.front.result 62 (λ e. omega (arith, e))) ∙ passed_over _ _ _ _ _ (ne_eqb c.front.result 61 (λ e. omega (arith, e))) ∙
    goes_on _ _ _ _ _ _ c.in_ok-sign-in_default.ensures
