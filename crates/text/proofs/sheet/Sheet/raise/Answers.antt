-- A power's words: the signs of its products, then the term so many times.
use Rattle.std.proofs.Common.{◌≡◌, suc, ◌-◌, ◌++◌, sym, ap, ◌∙◌, arith}
use Rattle.grammar.specs.Meaning.{power, term_words}
use Rattle.text.specs.Sheet.{copies}
use Rattle.text.proofs.Powers.{power_words}
use Rattle.text.proofs.Sheets.{same_words}
use Rattle.text.proofs.sheet.Sheet.raise.Goals as goal

pub returns : goal.returns
returns c xs t begins held =
    let n : suc (c.args.exponent - 1) ≡ c.args.exponent = omega (arith, c.requires) in
    let copied = c.copy.ensures xs (term_words t) begins held.counted held in
    same_words _ _ _
    (ap (λ l. xs ++ l) (sym (power_words t (c.args.exponent - 1)) ∙ ap (λ k. term_words (power t k)) n))
    (c.multiply.ensures xs (term_words t ++ copies (c.args.exponent - 1) (term_words t)) begins copied)
