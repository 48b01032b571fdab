-- By the sign that follows.
use Rattle.std.proofs.Common.{sym, ◌∙◌}
use Rattle.std.proofs.lemmas.Bool.{eq-eqb, ne_eqb}
use Rattle.grammar.specs.Formulas.{or_equal}
use Rattle.grammar.specs.Reader.{run}
use Rattle.grammar.proofs.Runs.{goes_on, stops}
use Rattle.text.proofs.Exits.{handed_on_lem}
use Rattle.text.proofs.Steps.{chose, passed_over}
use Rattle.text.proofs.source.Source.or_equal.Goals as goal

pub returns-in_err-sign : goal.returns-in_err-sign
unfolding or_equal run
returns-in_err-sign c =
    chose _ _ _ _ _ (eq-eqb _ 61 (sym c.front.ensures ∙ c.if-front-eq61.true)) ∙ stops _ _ _ _ _ c.in_err-sign.ensures ∙ handed_on_lem c.from_residual.result _ _ c.from_residual.ensures.1

pub returns-then-front-eq61 : goal.returns-then-front-eq61
unfolding or_equal run
returns-then-front-eq61 c = chose _ _ _ _ _ (eq-eqb _ 61 (sym c.front.ensures ∙ c.if-front-eq61.true)) ∙ goes_on _ _ _ _ _ _ c.in_ok-sign.ensures

pub returns : goal.returns
unfolding or_equal run
returns c = passed_over _ _ _ _ _ (ne_eqb _ 61 (λ e. c.if-front-eq61.false (c.front.ensures ∙ e))) ∙ goes_on _ _ _ _ _ _ c.blanks.ensures
