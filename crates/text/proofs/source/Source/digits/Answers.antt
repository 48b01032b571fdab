-- Digits are passed one by one, while the number stays within its bound.
use Rattle.std.proofs.Common.{◌≡◌, ℕ, ◌+◌, ◌-◌, ◌*◌, Bool, true, false, ◌&&◌, leb, get_or, sym, ap, ◌∙◌, ap₂}
use Rattle.std.proofs.lemmas.Bool.{and_left, and_right, and_from, lt-leb, le-leb}
use Rattle.grammar.specs.Characters.{is_digit}
use Rattle.grammar.specs.Reader.{run}
use Rattle.grammar.specs.Tokens.{digits_for}
use Rattle.grammar.proofs.Tokens.{digits_again, digits-ended, digits-over}
use Rattle.text.proofs.source.Source.digits.Goals as goal

-- a digit that keeps the number within its bound
abbrev fits : ℕ → ℕ → Bool
fits n d = is_digit d && leb (n * 10 + (d - 48)) 65535

pub returns-then-not-is_digit : goal.returns-then-not-is_digit
returns-then-not-is_digit c =
    let e : fits c.loop-turn.number (get_or c.args.self.now.text.now c.loop-turn.at 0) ≡ false =
    ap (fits c.loop-turn.number) (sym c.front-c.ensures) ∙ and_left (is_digit c.front-c.result) _ (sym c.if-not-is_digit.ensures) in
    c.loop-turn.invariant.0 ∙ digits-ended _ c.loop-turn.number c.args.self.now.text.now c.loop-turn.at e

pub returns-then-longer-gt-LARGEST : goal.returns-then-longer-gt-LARGEST
returns-then-longer-gt-LARGEST c =
    let e : fits c.loop-turn.number (get_or c.args.self.now.text.now c.loop-turn.at 0) ≡ false =
    ap (fits c.loop-turn.number) (sym c.front-c.ensures) ∙ and_right (is_digit c.front-c.result) _ (ap (λ d. leb (c.loop-turn.number * 10 + d) 65535) (sym c.from.ensures) ∙ lt-leb _ 65535 c.if-longer-gt-LARGEST.true) in
    c.loop-turn.invariant.0 ∙ digits-ended _ c.loop-turn.number c.args.self.now.text.now c.loop-turn.at e

pub loop-turn-preserved : goal.loop-turn-preserved
loop-turn-preserved c =
    let e : fits c.loop-turn.number (get_or c.args.self.now.text.now c.loop-turn.at 0) ≡ true =
    ap (fits c.loop-turn.number) (sym c.front-c.ensures) ∙ and_from (is_digit c.front-c.result) _ (sym c.if-not-is_digit.ensures) (ap (λ d. leb (c.loop-turn.number * 10 + d) 65535) (sym c.from.ensures) ∙ le-leb _ 65535 c.if-longer-gt-LARGEST.false) in (
      c.loop-turn.invariant.0 ∙ digits_again 5 c.loop-turn._turn c.loop-turn.number c.args.self.now.text.now c.loop-turn.at c.loop-turn-test.true e ∙
          ap₂ (λ d n. run (digits_for (5 - (c.loop-turn._turn + 1)) (c.loop-turn.number * 10 + d)) c.args.self.now.text.now n) (ap (λ d. d - 48) (sym c.front-c.ensures) ∙ sym c.from.ensures) (sym c.pass.ensures),
      c.if-longer-gt-LARGEST.false,
    )

pub returns : goal.returns
returns c = c.loop-turn.invariant.0 ∙ digits-over 5 c.loop-turn._turn c.loop-turn.number c.args.self.now.text.now c.loop-turn.at c.loop-turn-test.false
