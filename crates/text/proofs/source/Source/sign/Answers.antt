-- The characters, then the blanks.
use Rattle.std.proofs.Common.{◌∙◌}
use Rattle.grammar.specs.Tokens.{exactly, sign, blanks}
use Rattle.grammar.proofs.Runs.{goes_on}
use Rattle.text.proofs.Exits.{stops_at}
use Rattle.text.proofs.source.Source.sign.Goals as goal

pub returns-in_err-exactly : goal.returns-in_err-exactly
unfolding sign
returns-in_err-exactly c = stops_at (exactly c.args.characters.now) (λ _. blanks) _ _ _ _ _ c.in_err-exactly.ensures c.from_residual.ensures.1

pub returns : goal.returns
unfolding sign
returns c = goes_on (exactly c.args.characters.now) (λ _. blanks) _ _ _ _ c.in_ok-exactly.ensures ∙ c.blanks.ensures
