-- The sign, unless it has been read.
use Rattle.std.proofs.Common.{ap, ◌∙◌}
use Rattle.grammar.specs.Formulas.{arrow_behind}
use Rattle.grammar.specs.Reader.{run}
use Rattle.text.proofs.source.Source.arrow_behind.Goals as goal

pub returns-then-claim : goal.returns-then-claim
unfolding arrow_behind run
returns-then-claim c = ap (λ b. run (arrow_behind b) c.args.self.now.text.now c.args.at.now) c.if-claim.true

pub returns : goal.returns
unfolding arrow_behind run
returns c = ap (λ b. run (arrow_behind b) c.args.self.now.text.now c.args.at.now) c.if-claim.false ∙ c.sign.ensures
