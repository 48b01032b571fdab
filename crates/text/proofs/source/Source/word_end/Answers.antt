-- By the character in front.
use Rattle.std.proofs.Common.{cond, sym, ap, ◌∙◌}
use Rattle.grammar.specs.Characters.{is_letter}
use Rattle.grammar.specs.Reader.{run, Give, Refuse}
use Rattle.grammar.specs.Tokens.{word_end}
use Rattle.grammar.specs.declared.fault.Fault.TheVariants.{Unfit}
use Rattle.text.proofs.source.Source.word_end.Goals as goal

pub returns-then-is_letter : goal.returns-then-is_letter
unfolding word_end run
returns-then-is_letter c =
    ap (λ b. run (cond b (Refuse Unfit) (Give tt)) c.args.self.now.text.now c.args.at) (ap is_letter (sym c.front.ensures) ∙ sym c.if-is_letter.ensures)

pub returns-else-is_letter : goal.returns-else-is_letter
unfolding word_end run
returns-else-is_letter c =
    ap (λ b. run (cond b (Refuse Unfit) (Give tt)) c.args.self.now.text.now c.args.at) (ap is_letter (sym c.front.ensures) ∙ sym c.if-is_letter.ensures)
