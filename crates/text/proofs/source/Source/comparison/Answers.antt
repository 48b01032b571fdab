-- A sign of comparison, and a sum behind it.
use Rattle.std.proofs.Common.{◌++◌, sym, ap, ◌∙◌}
use Rattle.grammar.specs.Formulas.{begins_relation, comparison_of}
use Rattle.grammar.specs.Meaning.{compared, term_words}
use Rattle.grammar.specs.Reader.{run}
use Rattle.grammar.specs.Terms.{OfTerm, OfClaim}
use Rattle.grammar.proofs.Runs.{goes_on, stops}
use Rattle.text.proofs.Steps.{refused_by, chose, passed_over, regrouped}
use Rattle.text.proofs.source.Source.comparison.Goals as goal

pub returns-then-not-begins_relation : goal.returns-then-not-begins_relation
unfolding comparison_of run
returns-then-not-begins_relation c xs t begins held = (OfTerm t, passed_over _ _ _ _ _ (ap begins_relation (sym c.front.ensures) ∙ sym c.if-not-begins_relation.ensures), held)

pub returns-in_err-relation : goal.returns-in_err-relation
unfolding comparison_of
returns-in_err-relation c xs t begins held =
    refused_by _ _ c.from_residual.result _ _ (chose _ _ _ _ _ (ap begins_relation (sym c.front.ensures) ∙ sym c.if-not-begins_relation.ensures) ∙ stops _ _ _ _ _ c.in_err-relation.ensures) c.from_residual.ensures.1

pub returns-in_err-arrow : goal.returns-in_err-arrow
unfolding comparison_of
returns-in_err-arrow c xs t begins held =
    refused_by _ _ c.from_residual-in_err-arrow.result _ _ (chose _ _ _ _ _ (ap begins_relation (sym c.front.ensures) ∙ sym c.if-not-begins_relation.ensures) ∙ goes_on _ _ _ _ _ _ c.in_ok-relation.ensures ∙ stops _ _ _ _ _ (c.in_err-arrow.ensures (xs ++ term_words t) held)) c.from_residual-in_err-arrow.ensures.1

pub returns : goal.returns
unfolding comparison_of run
returns c xs t begins held =
    let s = c.in_ok-arrow.ensures (xs ++ term_words t) held in (
      OfClaim (record { formula = compared c.in_ok-relation.relation t s.0.term; arrow = s.0.arrow }),
      chose _ _ _ _ _ (ap begins_relation (sym c.front.ensures) ∙ sym c.if-not-begins_relation.ensures) ∙ goes_on _ _ _ _ _ _ c.in_ok-relation.ensures ∙ goes_on _ _ _ _ _ _ s.1,
      (s.2.0, c.compare.ensures xs t s.0.term begins held.counted (regrouped _ xs _ _ s.2.1)),
    )
