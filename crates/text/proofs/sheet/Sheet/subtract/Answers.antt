-- The second term is negated, then added.
use Rattle.std.proofs.Common.{◌++◌}
use Rattle.grammar.specs.Meaning.{negative, term_words}
use Rattle.text.proofs.Steps.{regrouped, ungrouped}
use Rattle.text.proofs.sheet.Sheet.subtract.Goals as goal

pub returns : goal.returns
unfolding term_words
returns c xs s t begins ends held =
    c.insert_kind.ensures xs (term_words s ++ term_words (negative t)) begins
    (regrouped c.negate.new.self xs (term_words s) (term_words (negative t)) (c.negate.ensures (xs ++ term_words s) (term_words t) ends (ungrouped c.args.self.now xs (term_words s) (term_words t) held)))
