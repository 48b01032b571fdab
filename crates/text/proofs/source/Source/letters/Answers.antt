-- A letter, the letters from here on, and the end of the word.
use Rattle.std.proofs.Common.{cond, sym, ap, ◌∙◌}
use Rattle.grammar.specs.Characters.{is_letter}
use Rattle.grammar.specs.Reader.{run, Give, Refuse, ◌>>=◌, ◌>>◌}
use Rattle.grammar.specs.Tokens.{letters_on, letters, word_end}
use Rattle.grammar.specs.declared.fault.Fault.TheVariants.{Unfit}
use Rattle.grammar.proofs.Runs.{goes_on}
use Rattle.text.proofs.Exits.{stops_at}
use Rattle.text.proofs.source.Source.letters.Goals as goal

pub returns-then-not-is_letter : goal.returns-then-not-is_letter
unfolding letters run
returns-then-not-is_letter c =
    ap (λ b. run (cond b (letters_on >>= (λ w. word_end >> Give w)) (Refuse Unfit)) c.args.self.now.text.now c.args.at.now)
    (ap is_letter (sym c.front.ensures) ∙ sym c.if-not-is_letter.ensures)

pub returns-in_err-word_end : goal.returns-in_err-word_end
unfolding letters run
returns-in_err-word_end c =
    ap (λ b. run (cond b (letters_on >>= (λ w. word_end >> Give w)) (Refuse Unfit)) c.args.self.now.text.now c.args.at.now)
    (ap is_letter (sym c.front.ensures) ∙ sym c.if-not-is_letter.ensures) ∙
    goes_on letters_on (λ w. word_end >> Give w) _ _ _ _ c.letters_on-word.ensures ∙
    stops_at word_end (λ _. Give _) _ _ _ _ _ c.in_err-word_end.ensures c.from_residual.ensures.1

pub returns : goal.returns
unfolding letters run
returns c =
    ap (λ b. run (cond b (letters_on >>= (λ w. word_end >> Give w)) (Refuse Unfit)) c.args.self.now.text.now c.args.at.now)
    (ap is_letter (sym c.front.ensures) ∙ sym c.if-not-is_letter.ensures) ∙
    goes_on letters_on (λ w. word_end >> Give w) _ _ _ _ c.letters_on-word.ensures ∙
    goes_on word_end (λ _. Give _) _ _ _ _ c.in_ok-word_end.ensures
