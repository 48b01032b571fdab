-- A word of the language doesn't fit, a name that isn't quantified is wrong, and another stands for its variable.
use Rattle.std.proofs.Common.{[], ◌∷◌, ◌++◌, pos, Some, None, sym, ap, ◌∙◌, w64, SFits, rules}
use Rattle.std.proofs.lemmas.Int.{to_z-of_z}
use Rattle.field.specs.Sentence.{Var}
use Rattle.grammar.specs.declared.fault.Fault.TheVariants.{Wrong}
use Rattle.grammar.specs.Meaning.{term_words}
use Rattle.grammar.specs.Reader.{run, Give, Refuse, ◌>>◌}
use Rattle.grammar.specs.Terms.{named}
use Rattle.grammar.specs.Tokens.{variable, blanks}
use Rattle.grammar.proofs.Runs.{goes_on, stops}
use Rattle.text.proofs.Sheets.{same_words}
use Rattle.text.proofs.Steps.{chose, passed_over, regrouped}
use Rattle.text.proofs.source.Source.named.Goals as goal

pub returns-then-is_reserved : goal.returns-then-is_reserved
unfolding named variable run
returns-then-is_reserved c xs held = stops _ _ _ _ _ (chose _ _ _ _ _ (sym c.if-is_reserved.ensures))

pub returns-in_default : goal.returns-in_default
unfolding named variable run
returns-in_default c xs held =
    stops _ _ _ _ _ (passed_over _ _ _ _ _ (sym c.if-is_reserved.ensures) ∙
    ap (λ o. run (elim o [ None ↦ Refuse (Wrong c.args.word.length) | Some i ↦ blanks >> Give i ]) c.args.self.now.text.now c.args.draft.now.at) (sym c.in_default.ensures.value))

pub returns : goal.returns
unfolding named variable run term_words
returns c xs held = (
  Var c.in-Some.i,
  goes_on _ _ _ _ _ _ (passed_over _ _ _ _ _ (sym c.if-is_reserved.ensures) ∙
      ap (λ o. run (elim o [ None ↦ Refuse (Wrong c.args.word.length) | Some i ↦ blanks >> Give i ]) c.args.self.now.text.now c.args.draft.now.at) (sym c.in-Some.ensures.value) ∙
      goes_on _ _ _ _ _ _ c.blanks.ensures),
  let fits : SFits w64 (pos c.in-Some.i) = search rules in
      regrouped _ xs _ _
      (same_words _ _ _ (ap (λ u. (xs ++ (pos 6 ∷ [])) ++ (u ∷ [])) (to_z-of_z w64 (pos c.in-Some.i) fits)) (c.put.ensures (xs ++ (pos 6 ∷ [])) (c.put_kind.ensures xs held))),
)
