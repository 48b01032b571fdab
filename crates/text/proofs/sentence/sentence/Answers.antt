-- The quantifiers, a colon, and a formula.
use Rattle.std.proofs.Common.{sym, ◌≡◌, ◌∷◌, ◌++◌, map, length, take, pos, ap, ◌∙◌, arith, length-take, rules}
use Rattle.std.proofs.lemmas.List.{length-map}
use Rattle.grammar.specs.Formulas.{equivalence}
use Rattle.grammar.specs.Meaning.{quantifier_word, formula_words}
use Rattle.grammar.specs.Nesting.{nest}
use Rattle.grammar.specs.Reader.{run}
use Rattle.grammar.specs.Text.{sentence}
use Rattle.grammar.proofs.Runs.{goes_on, stops}
use Rattle.text.specs.Prefix.{every_of, prefix_of}
use Rattle.text.proofs.Sheets.{same_words}
use Rattle.text.proofs.Steps.{refused_by, claims, no_claim}
use Rattle.text.proofs.Prefixes.{names_counted}
use Rattle.text.proofs.sentence.sentence.Goals as goal

pub returns-in_err-prefix : goal.returns-in_err-prefix
unfolding sentence
returns-in_err-prefix c held = refused_by _ _ c.from_residual.result _ _ (goes_on _ _ _ _ _ _ c.blanks.ensures ∙ stops _ _ _ _ _ c.in_err-prefix.ensures) c.from_residual.ensures.1

pub returns-in_err-sign : goal.returns-in_err-sign
unfolding sentence
returns-in_err-sign c held = refused_by _ _ c.from_residual-in_err-sign.result _ _ (goes_on _ _ _ _ _ _ c.blanks.ensures ∙ goes_on _ _ _ _ _ _ c.in_ok-prefix.ensures ∙ stops _ _ _ _ _ c.in_err-sign.ensures) c.from_residual-in_err-sign.ensures.1

pub returns-in_err-claim : goal.returns-in_err-claim
unfolding sentence
returns-in_err-claim c held =
    let named = names_counted c.in_ok-prefix.prefix _ c.names-names.ensures in
    let said = c.announce.ensures held in
    refused_by _ _ c.from_residual-in_err-claim.result _ _ (goes_on _ _ _ _ _ _ c.blanks.ensures ∙ goes_on _ _ _ _ _ _ c.in_ok-prefix.ensures ∙ goes_on _ _ _ _ _ _ c.in_ok-sign.ensures ∙ stops (equivalence (prefix_of c.in_ok-prefix.prefix).names (nest (prefix_of c.in_ok-prefix.prefix).names 200)) _ _ _ _ (ap (λ names. run (equivalence names (nest names 200)) c.args.text.now c.sign.new.at) (sym named) ∙ c.in_err-claim.ensures (pos c.in_ok-prefix.prefix.count ∷ map quantifier_word (prefix_of c.in_ok-prefix.prefix).quantifiers) said)) c.from_residual-in_err-claim.ensures.1

pub returns-in_err-ok_or : goal.returns-in_err-ok_or
unfolding sentence
returns-in_err-ok_or c held =
    let named = names_counted c.in_ok-prefix.prefix _ c.names-names.ensures in
    let said = c.announce.ensures held in
    let a = c.in_ok-claim.ensures (pos c.in_ok-prefix.prefix.count ∷ map quantifier_word (prefix_of c.in_ok-prefix.prefix).quantifiers) said in
    refused_by _ _ c.from_residual-in_err-ok_or.result _ _ (goes_on _ _ _ _ _ _ c.blanks.ensures ∙ goes_on _ _ _ _ _ _ c.in_ok-prefix.ensures ∙ goes_on _ _ _ _ _ _ c.in_ok-sign.ensures ∙ goes_on (equivalence (prefix_of c.in_ok-prefix.prefix).names (nest (prefix_of c.in_ok-prefix.prefix).names 200)) _ _ _ _ _ (ap (λ names. run (equivalence names (nest names 200)) c.args.text.now c.sign.new.at) (sym named) ∙ a.1) ∙
    stops _ _ _ _ _ (no_claim c.row.new.draft.sheet (pos c.in_ok-prefix.prefix.count ∷ map quantifier_word (prefix_of c.in_ok-prefix.prefix).quantifiers) a.0 _ _ c.args.text.now c.row.new.draft.at a.2 c.in_err-ok_or.ensures.value)) c.from_residual-in_err-ok_or.ensures.1

pub returns : goal.returns
unfolding sentence run
returns c held =
    let named = names_counted c.in_ok-prefix.prefix _ c.names-names.ensures in
    let said = c.announce.ensures held in
    let a = c.in_ok-claim.ensures (pos c.in_ok-prefix.prefix.count ∷ map quantifier_word (prefix_of c.in_ok-prefix.prefix).quantifiers) said in
    let q = claims c.row.new.draft.sheet (pos c.in_ok-prefix.prefix.count ∷ map quantifier_word (prefix_of c.in_ok-prefix.prefix).quantifiers) a.0 _ c.in_ok-ok_or.field-0 c.args.text.now c.row.new.draft.at a.2 c.in_ok-ok_or.ensures.ok_part in
    let all : length c.in_ok-prefix.prefix.quantifiers ≡ 4 = search rules in
    let few = c.in_ok-prefix.prefix.few in
    let long : c.in_ok-prefix.prefix.count ≡ length (prefix_of c.in_ok-prefix.prefix).quantifiers = omega (arith, length-map (take c.in_ok-prefix.prefix.count c.in_ok-prefix.prefix.quantifiers) every_of, length-take c.in_ok-prefix.prefix.count c.in_ok-prefix.prefix.quantifiers) in (
      record { quantifiers = (prefix_of c.in_ok-prefix.prefix).quantifiers; body = q.0.formula },
      goes_on _ _ _ _ _ _ c.blanks.ensures ∙ goes_on _ _ _ _ _ _ c.in_ok-prefix.ensures ∙ goes_on _ _ _ _ _ _ c.in_ok-sign.ensures ∙ goes_on (equivalence (prefix_of c.in_ok-prefix.prefix).names (nest (prefix_of c.in_ok-prefix.prefix).names 200)) _ _ _ _ _ (ap (λ names. run (equivalence names (nest names 200)) c.args.text.now c.sign.new.at) (sym named) ∙ a.1) ∙ goes_on _ _ _ _ _ _ q.2,
      same_words _ _ _
          (ap (λ n. pos n ∷ (map quantifier_word (prefix_of c.in_ok-prefix.prefix).quantifiers ++ formula_words q.0.formula)) long) q.3.1,
    )
