-- Blanks are passed one by one.
use Rattle.std.proofs.Common.{◌≡◌, ◌+◌, ◌-◌, true, false, get_or, sym, ap, ◌∙◌}
use Rattle.grammar.specs.Characters.{is_blank}
use Rattle.grammar.specs.Reader.{run}
use Rattle.grammar.specs.Tokens.{blanks_for}
use Rattle.grammar.proofs.Tokens.{blanks_again, blanks-ended, blanks-over}
use Rattle.text.proofs.source.Source.blanks.Goals as goal

pub returns-then-not-is_blank : goal.returns-then-not-is_blank
returns-then-not-is_blank c =
    let e : is_blank (get_or c.args.self.now.text.now c.loop-turn.at 0) ≡ false = ap is_blank (sym c.front.ensures) ∙ sym c.if-not-is_blank.ensures in
    c.loop-turn.invariant ∙ blanks-ended _ c.args.self.now.text.now c.loop-turn.at e

pub loop-turn-preserved : goal.loop-turn-preserved
loop-turn-preserved c =
    let e : is_blank (get_or c.args.self.now.text.now c.loop-turn.at 0) ≡ true = ap is_blank (sym c.front.ensures) ∙ sym c.if-not-is_blank.ensures in
    c.loop-turn.invariant ∙ blanks_again 65536 c.loop-turn._turn c.args.self.now.text.now c.loop-turn.at c.loop-turn-test.true e ∙
    ap (λ n. run (blanks_for (65536 - (c.loop-turn._turn + 1))) c.args.self.now.text.now n) (sym c.pass.ensures)

pub returns : goal.returns
returns c = c.loop-turn.invariant ∙ blanks-over 65536 c.loop-turn._turn c.args.self.now.text.now c.loop-turn.at c.loop-turn-test.false
