-- `^` with a digit raises the term in front of it.
use Rattle.std.proofs.Common.{◌-◌, sym, ap, ◌∙◌, ap₂}
use Rattle.std.proofs.lemmas.Bool.{eq-eqb, ne_eqb}
use Rattle.grammar.specs.Meaning.{power}
use Rattle.grammar.specs.Reader.{run, Give, ◌>>◌}
use Rattle.grammar.specs.Terms.{is_exponent, raised}
use Rattle.grammar.specs.Tokens.{blanks}
use Rattle.grammar.proofs.Runs.{goes_on, stops}
use Rattle.text.proofs.Steps.{refused_by, chose, passed_over}
use Rattle.text.proofs.source.Source.raised.Goals as goal

pub returns-then-front-ne94 : goal.returns-then-front-ne94
unfolding raised run
returns-then-front-ne94 c xs t begins held =
    (t, passed_over _ _ _ _ _ (ne_eqb _ 94 (λ e. c.if-front-ne94.true (c.front.ensures ∙ e))), held)

pub returns-in_err-sign : goal.returns-in_err-sign
unfolding raised run
returns-in_err-sign c xs t begins held =
    refused_by _ _ c.from_residual.result _ _ (chose _ _ _ _ _ (eq-eqb _ 94 (sym c.front.ensures ∙ c.if-front-ne94.false)) ∙ stops _ _ _ _ _ c.in_err-sign.ensures) c.from_residual.ensures.1

pub returns-then-not-is_exponent : goal.returns-then-not-is_exponent
unfolding raised run
returns-then-not-is_exponent c xs t begins held =
    chose _ _ _ _ _ (eq-eqb _ 94 (sym c.front.ensures ∙ c.if-front-ne94.false)) ∙ goes_on _ _ _ _ _ _ c.in_ok-sign.ensures ∙
    passed_over _ _ _ _ _ (ap is_exponent (sym c.front-digit.ensures) ∙ sym c.if-not-is_exponent.ensures)

pub returns : goal.returns
unfolding raised run
returns c xs t begins held = (
  power t (c.front-digit.result - 48),
  chose _ _ _ _ _ (eq-eqb _ 94 (sym c.front.ensures ∙ c.if-front-ne94.false)) ∙ goes_on _ _ _ _ _ _ c.in_ok-sign.ensures ∙
      chose _ _ _ _ _ (ap is_exponent (sym c.front-digit.ensures) ∙ sym c.if-not-is_exponent.ensures) ∙
      ap₂ (λ d n. run (blanks >> Give (power t (d - 48))) c.args.self.now.text.now n) (sym c.front-digit.ensures) (sym c.pass.ensures) ∙ goes_on _ _ _ _ _ _ c.blanks.ensures,
  c.raise.ensures xs t begins held,
)
