-- A row by what joins it.
use Rattle.std.proofs.Common.{◌≡◌, ℕ, List, refl, ap}
use Rattle.grammar.specs.declared.word.Word.{Word}
use Rattle.grammar.specs.Formulas.{on_claim, row_for, in_row, conjunction, disjunction, equivalence}
use Rattle.grammar.specs.Reader.{◌>>=◌, run}
use Rattle.grammar.specs.Terms.{Nest}
use Rattle.text.specs.declared.row.Row.{Row}
use Rattle.text.specs.declared.row.Row.TheVariants.{Conjunction, Disjunction, Equivalence}
use Rattle.text.specs.Row.{first_of, between_of, join_of, operand_of, row_of}

row_is : (r : Row) (names : List Word) (deeper : Nest) → row_of r names deeper ≡ in_row (first_of r) (between_of r) (join_of r) (operand_of r names deeper)
unfolding conjunction disjunction equivalence
row_is Conjunction names deeper = refl
row_is Disjunction names deeper = refl
row_is Equivalence names deeper = refl

pub row_runs : (r : Row) (names : List Word) (deeper : Nest) (text : List ℕ) (i : ℕ) →
    run (row_of r names deeper) text i ≡ run (operand_of r names deeper >>= on_claim (row_for 65536 (first_of r) (between_of r) (join_of r) (operand_of r names deeper))) text i
unfolding in_row
row_runs r names deeper text i = ap (λ q. run q text i) (row_is r names deeper)
