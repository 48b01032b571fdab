-- The sum, then its comparison.
use Rattle.grammar.specs.Formulas.{from_product}
use Rattle.grammar.specs.Reader.{run}
use Rattle.grammar.proofs.Runs.{goes_on, stops}
use Rattle.text.proofs.Steps.{read_by, refused_by}
use Rattle.text.proofs.source.Source.from_product.Goals as goal

pub returns-in_err-plus : goal.returns-in_err-plus
unfolding from_product
returns-in_err-plus c xs t begins held = refused_by _ _ c.from_residual.result _ _ (stops _ _ _ _ _ (c.in_err-plus.ensures xs t begins held)) c.from_residual.ensures.1

pub returns : goal.returns
unfolding from_product run
returns c xs t begins held =
    let s = c.in_ok-plus.ensures xs t begins held in
    read_by _ _ _ c.comparison.result _ (goes_on _ _ _ _ _ _ s.1) (c.comparison.ensures xs s.0.term begins s.2.1)
