-- Letters are passed one by one.
use Rattle.std.proofs.Common.{◌≡◌, suc, ◌+◌, ◌-◌, true, false, get_or, set, sym, ap, ◌∙◌, ap₂, arith}
use Rattle.std.proofs.lemmas.List.{set-get_or}
use Rattle.grammar.specs.Characters.{is_letter}
use Rattle.grammar.specs.Reader.{run, Read}
use Rattle.grammar.specs.Tokens.{letters_for, with_letter}
use Rattle.grammar.proofs.Tokens.{letters_again, letters-ended, letters-over}
use Rattle.text.proofs.source.Source.letters_on.Goals as goal

pub returns-then-not-is_letter : goal.returns-then-not-is_letter
returns-then-not-is_letter c =
    let e : is_letter (get_or c.args.self.now.text.now c.loop-letter.at 0) ≡ false = ap is_letter (sym c.front-c.ensures) ∙ sym c.if-not-is_letter.ensures in
    c.loop-letter.invariant.0 ∙ letters-ended _ (record { letters = c.loop-letter.letter-items; length = c.loop-letter.length }) c.args.self.now.text.now c.loop-letter.at e ∙
    ap (λ ls. Read (record { letters = ls; length = c.loop-letter.length }) c.loop-letter.at) (sym (set-get_or _ _ 0))

pub loop-letter-preserved : goal.loop-letter-preserved
loop-letter-preserved c =
    let e : is_letter (get_or c.args.self.now.text.now c.loop-letter.at 0) ≡ true = ap is_letter (sym c.front-c.ensures) ∙ sym c.if-not-is_letter.ensures in
    let n = c.loop-letter.invariant.1 in
    let long : suc c.loop-letter.length ≡ c.loop-letter.length + 1 = omega arith in
    let word : with_letter (record { letters = c.loop-letter.letter-items; length = c.loop-letter.length }) (get_or c.args.self.now.text.now c.loop-letter.at 0) ≡ record { letters = set c.loop-letter.letter-items c.loop-letter.letter-index c.front-c.result; length = c.loop-letter.length + 1 } =
    λ k. record { letters = set c.loop-letter.letter-items (n k) (sym c.front-c.ensures k); length = long k } in (
      c.loop-letter.invariant.0 ∙ letters_again 8 c.loop-letter.letter-index _ c.args.self.now.text.now c.loop-letter.at c.loop-letter-test.true e ∙
          ap₂ (λ v n. run (letters_for (8 - (c.loop-letter.letter-index + 1)) v) c.args.self.now.text.now n) word (sym c.pass.ensures),
      omega (arith, n),
    )

pub returns-after-loop-letter : goal.returns-after-loop-letter
returns-after-loop-letter c = c.loop-letter.invariant.0 ∙ letters-over 8 c.loop-letter.letter-index _ c.args.self.now.text.now c.loop-letter.at c.loop-letter-test.false
