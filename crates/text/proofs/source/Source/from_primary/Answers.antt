-- The power, the product, then the sum.
use Rattle.std.proofs.Common.{◌∙◌}
use Rattle.grammar.specs.Formulas.{from_primary}
use Rattle.grammar.proofs.Runs.{goes_on, stops}
use Rattle.text.proofs.Steps.{read_by, refused_by}
use Rattle.text.proofs.source.Source.from_primary.Goals as goal

pub returns-in_err-raised : goal.returns-in_err-raised
unfolding from_primary
returns-in_err-raised c xs t begins held = refused_by _ _ c.from_residual.result _ _ (stops _ _ _ _ _ (c.in_err-raised.ensures xs t begins held)) c.from_residual.ensures.1

pub returns-in_err-times : goal.returns-in_err-times
unfolding from_primary
returns-in_err-times c xs t begins held =
    let s = c.in_ok-raised.ensures xs t begins held in
    refused_by _ _ c.from_residual-in_err-times.result _ _ (goes_on _ _ _ _ _ _ s.1 ∙ stops _ _ _ _ _ (c.in_err-times.ensures xs s.0 begins s.2)) c.from_residual-in_err-times.ensures.1

pub returns : goal.returns
unfolding from_primary
returns c xs t begins held =
    let s = c.in_ok-raised.ensures xs t begins held in
    let u = c.in_ok-times.ensures xs s.0 begins s.2 in
    read_by _ _ _ c.from_product.result _ (goes_on _ _ _ _ _ _ s.1 ∙ goes_on _ _ _ _ _ _ u.1) (c.from_product.ensures xs u.0 begins u.2)
