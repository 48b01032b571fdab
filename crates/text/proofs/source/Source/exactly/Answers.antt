-- The characters are compared one by one.
use Rattle.std.proofs.Common.{◌+◌, drop, sym, ap, ◌∙◌}
use Rattle.std.proofs.lemmas.List.{at_drop_all}
use Rattle.grammar.specs.Reader.{run}
use Rattle.grammar.specs.Tokens.{exactly}
use Rattle.grammar.proofs.Tokens.{exactly_again, exactly_not}
use Rattle.text.proofs.source.Source.exactly.Goals as goal

pub returns-then-front-c : goal.returns-then-front-c
returns-then-front-c c =
    c.loop-c.invariant ∙ exactly_not c.args.characters.now c.loop-c.c-index c.args.self.now.text.now c.loop-c.at c.loop-c-test.true (λ e. c.if-front-c.true (c.front.ensures ∙ e))

pub loop-c-preserved : goal.loop-c-preserved
loop-c-preserved c =
    c.loop-c.invariant ∙
    exactly_again c.args.characters.now c.loop-c.c-index c.args.self.now.text.now c.loop-c.at c.loop-c-test.true (sym c.front.ensures ∙ c.if-front-c.false) ∙
    ap (λ n. run (exactly (drop (c.loop-c.c-index + 1) c.args.characters.now)) c.args.self.now.text.now n) (sym c.pass.ensures)

pub returns : goal.returns
unfolding exactly run
returns c =
    c.loop-c.invariant ∙ at_drop_all (λ cs. run (exactly cs) c.args.self.now.text.now c.loop-c.at) c.args.characters.now c.loop-c.c-index c.loop-c-test.false
