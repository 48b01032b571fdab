-- By the row.
use Rattle.grammar.specs.Meaning.{formula_words}
use Rattle.text.proofs.sheet.Sheet.join.Goals as goal

pub returns-in-Conjunction : goal.returns-in-Conjunction
unfolding formula_words
returns-in-Conjunction c xs p q begins middle held =
    rw c.in-Conjunction.is (c.insert_kind.ensures xs _ begins held)

pub returns-in-Disjunction : goal.returns-in-Disjunction
unfolding formula_words
returns-in-Disjunction c xs p q begins middle held =
    rw c.in-Disjunction.is (c.insert_kind-in-Disjunction.ensures xs _ begins held)
