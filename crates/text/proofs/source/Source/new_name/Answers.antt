-- A word that is no name yet.
use Rattle.std.proofs.Common.{Some, None, sym, ap, ◌∙◌}
use Rattle.grammar.specs.declared.fault.Fault.TheVariants.{Wrong}
use Rattle.grammar.specs.Reader.{run, Give, Refuse, ◌>>◌}
use Rattle.grammar.specs.Tokens.{new_name, blanks}
use Rattle.grammar.proofs.Runs.{goes_on, stops}
use Rattle.text.proofs.Exits.{handed_on_lem}
use Rattle.text.proofs.Steps.{chose, passed_over}
use Rattle.text.proofs.source.Source.new_name.Goals as goal

pub returns-in_err-word : goal.returns-in_err-word
unfolding new_name
returns-in_err-word c = stops _ _ _ _ _ c.in_err-word.ensures ∙ handed_on_lem c.from_residual.result _ _ c.from_residual.ensures.1

pub returns-then-is_reserved : goal.returns-then-is_reserved
unfolding new_name run
returns-then-is_reserved c = goes_on _ _ _ _ _ _ c.in_ok-word.ensures ∙ chose _ _ _ _ _ (sym c.if-is_reserved.ensures)

pub returns-in-Some : goal.returns-in-Some
unfolding new_name run
returns-in-Some c = goes_on _ _ _ _ _ _ c.in_ok-word.ensures ∙ passed_over _ _ _ _ _ (sym c.if-is_reserved.ensures) ∙ ap (λ o. run (elim o [ None ↦ blanks >> Give c.in_ok-word.word | Some i ↦ Refuse (Wrong c.in_ok-word.word.length) ]) c.args.self.now.text.now c.letters.new.at) (sym c.in-Some.ensures.value)

pub returns-in-None : goal.returns-in-None
unfolding new_name run
returns-in-None c =
    goes_on _ _ _ _ _ _ c.in_ok-word.ensures ∙ passed_over _ _ _ _ _ (sym c.if-is_reserved.ensures) ∙ ap (λ o. run (elim o [ None ↦ blanks >> Give c.in_ok-word.word | Some i ↦ Refuse (Wrong c.in_ok-word.word.length) ]) c.args.self.now.text.now c.letters.new.at) (sym c.in-None.ensures.value) ∙ goes_on _ _ _ _ _ _ c.blanks.ensures
