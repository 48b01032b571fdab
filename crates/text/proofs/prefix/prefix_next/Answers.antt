-- The quantifier, then its name.
use Rattle.std.proofs.Common.{sym, ap, ◌∙◌}
use Rattle.grammar.specs.Reader.{run, Look, Read}
use Rattle.grammar.specs.Text.{quantifier_of, prefix_next}
use Rattle.grammar.specs.Tokens.{new_name}
use Rattle.grammar.proofs.Runs.{goes_on, stops}
use Rattle.text.specs.Prefix.{prefix_of}
use Rattle.text.proofs.Exits.{handed_on_as}
use Rattle.text.proofs.Prefixes.{names_counted}
use Rattle.text.proofs.prefix.prefix_next.Goals as goal

pub returns-in_err-quantifier-clause-value : goal.returns-in_err-quantifier-clause-value
unfolding prefix_next run
returns-in_err-quantifier-clause-value c = stops (Look quantifier_of) _ _ _ _ c.in_err-quantifier.ensures ∙ handed_on_as prefix_of c.from_residual.result _ _ c.from_residual.ensures.1

pub returns-in_err-name-clause-value : goal.returns-in_err-name-clause-value
unfolding prefix_next run
returns-in_err-name-clause-value c =
    let named = names_counted c.args.prefix _ c.names-names.ensures in
    goes_on (Look quantifier_of) _ _ _ _ _ c.in_ok-quantifier.ensures ∙ stops (new_name (prefix_of c.args.prefix).names) _ _ _ _ (ap (λ names. run (new_name names) c.args.text.now c.quantifier.new.at) (sym named) ∙ c.in_err-name.ensures) ∙ handed_on_as prefix_of c.from_residual-in_err-name.result _ _ c.from_residual-in_err-name.ensures.1

pub returns-clause-value : goal.returns-clause-value
unfolding prefix_next run
returns-clause-value c =
    let named = names_counted c.args.prefix _ c.names-names.ensures in
    goes_on (Look quantifier_of) _ _ _ _ _ c.in_ok-quantifier.ensures ∙ goes_on (new_name (prefix_of c.args.prefix).names) _ _ _ _ _ (ap (λ names. run (new_name names) c.args.text.now c.quantifier.new.at) (sym named) ∙ c.in_ok-name.ensures) ∙
    ap (λ p. Read p c.new_name.new.at) (sym c.longer.ensures.value)
