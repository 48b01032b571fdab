-- The letters, the end of the word, then the blanks.
use Rattle.std.proofs.Common.{◌∙◌}
use Rattle.grammar.specs.Reader.{◌>>◌}
use Rattle.grammar.specs.Tokens.{exactly, keyword, word_end, blanks}
use Rattle.grammar.proofs.Runs.{goes_on}
use Rattle.text.proofs.Exits.{stops_at}
use Rattle.text.proofs.source.Source.keyword.Goals as goal

pub returns-in_err-exactly : goal.returns-in_err-exactly
unfolding keyword
returns-in_err-exactly c = stops_at (exactly c.args.characters.now) (λ _. word_end >> blanks) _ _ _ _ _ c.in_err-exactly.ensures c.from_residual.ensures.1

pub returns-in_err-word_end : goal.returns-in_err-word_end
unfolding keyword
returns-in_err-word_end c =
    goes_on (exactly c.args.characters.now) (λ _. word_end >> blanks) _ _ _ _ c.in_ok-exactly.ensures ∙
    stops_at word_end (λ _. blanks) _ _ _ _ _ c.in_err-word_end.ensures c.from_residual-in_err-word_end.ensures.1

pub returns : goal.returns
unfolding keyword
returns c =
    goes_on (exactly c.args.characters.now) (λ _. word_end >> blanks) _ _ _ _ c.in_ok-exactly.ensures ∙
    goes_on word_end (λ _. blanks) _ _ _ _ c.in_ok-word_end.ensures ∙ c.blanks.ensures
