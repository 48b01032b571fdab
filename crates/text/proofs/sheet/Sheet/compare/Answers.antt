-- By the relation.
use Rattle.std.proofs.Common.{◌∷◌, pos}
use Rattle.grammar.specs.Meaning.{difference, term_words, formula_words}
use Rattle.text.proofs.sheet.Sheet.compare.Goals as goal

pub returns-in-Below : goal.returns-in-Below
unfolding formula_words
returns-in-Below c xs s t begins ends held =
    rw c.in-Below.is (c.insert_kind.ensures xs (term_words (difference s t)) begins (c.subtract.ensures xs s t begins ends held))

pub returns-in-AtMost : goal.returns-in-AtMost
unfolding formula_words
returns-in-AtMost c xs s t begins ends held =
    rw c.in-AtMost.is (c.insert_kind-in-AtMost-2.ensures xs (pos 1 ∷ term_words (difference t s)) begins (c.insert_kind-in-AtMost.ensures xs (term_words (difference t s)) begins (c.subtract_from.ensures xs s t begins ends held)))

pub returns-in-Equal : goal.returns-in-Equal
unfolding formula_words
returns-in-Equal c xs s t begins ends held =
    rw c.in-Equal.is (c.insert_kind-in-Equal.ensures xs (term_words (difference s t)) begins (c.subtract-in-Equal.ensures xs s t begins ends held))

pub returns-in-Unequal : goal.returns-in-Unequal
unfolding formula_words
returns-in-Unequal c xs s t begins ends held =
    rw c.in-Unequal.is (c.insert_kind-in-Unequal-2.ensures xs (pos 2 ∷ term_words (difference s t)) begins (c.insert_kind-in-Unequal.ensures xs (term_words (difference s t)) begins (c.subtract-in-Unequal.ensures xs s t begins ends held)))

pub returns-in-Above : goal.returns-in-Above
unfolding formula_words
returns-in-Above c xs s t begins ends held =
    rw c.in-Above.is (c.insert_kind-in-Above.ensures xs (term_words (difference t s)) begins (c.subtract_from-in-Above.ensures xs s t begins ends held))

pub returns-in-AtLeast : goal.returns-in-AtLeast
unfolding formula_words
returns-in-AtLeast c xs s t begins ends held =
    rw c.in-AtLeast.is (c.insert_kind-in-AtLeast-2.ensures xs (pos 1 ∷ term_words (difference s t)) begins (c.insert_kind-in-AtLeast.ensures xs (term_words (difference s t)) begins (c.subtract-in-AtLeast.ensures xs s t begins ends held)))
