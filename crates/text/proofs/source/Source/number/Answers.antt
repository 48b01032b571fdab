-- The digits, then the blanks.
use Rattle.std.proofs.Common.{◌∙◌}
use Rattle.grammar.specs.Reader.{run, Give, ◌>>◌}
use Rattle.grammar.specs.Tokens.{digits, number, blanks}
use Rattle.grammar.proofs.Runs.{goes_on}
use Rattle.text.proofs.source.Source.number.Goals as goal

pub returns : goal.returns
unfolding number run
returns c = goes_on digits (λ n. blanks >> Give n) _ _ _ _ c.digits-number.ensures ∙ goes_on blanks (λ _. Give _) _ _ _ _ c.blanks.ensures
