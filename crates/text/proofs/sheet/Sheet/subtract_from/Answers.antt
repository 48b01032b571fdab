-- The first term is negated, then brought behind the second.
use Rattle.std.proofs.Common.{◌≡◌, ◌+◌, ◌++◌, length, arith, length-append}
use Rattle.grammar.specs.Meaning.{negative, term_words}
use Rattle.text.specs.Sheet.{Behind}
use Rattle.text.proofs.sheet.Sheet.subtract_from.Goals as goal

pub returns : goal.returns
unfolding term_words
returns c xs s t begins ends held =
    let one : length (xs ++ term_words s) ≡ length xs + length (term_words s) = length-append xs (term_words s) in
    let two : length (xs ++ term_words (negative s)) ≡ length xs + length (term_words (negative s)) = length-append xs (term_words (negative s)) in
    let place : Behind (xs ++ term_words (negative s)) c.three_on.result = omega (arith, c.three_on.ensures) in
    c.insert_kind.ensures xs (term_words t ++ term_words (negative s)) begins
    (c.exchange.ensures xs (term_words (negative s)) (term_words t) begins place (c.negate.ensures xs (term_words s ++ term_words t) begins held))
