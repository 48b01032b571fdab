-- Rows of formulas: what joins them, and what they are made of. Assumes nothing.
use Rattle.std.specs.Prelude.{ℕ, List, codes}
use Rattle.field.specs.Sentence.{Formula, And, Or}
use Rattle.grammar.specs.declared.word.Word.{Word}
use Rattle.grammar.specs.Formulas.{atom, conjunction, disjunction, implication, equivalence}
use Rattle.grammar.specs.Meaning.{equivalent}
use Rattle.grammar.specs.Reader.{Reader}
use Rattle.grammar.specs.Terms.{Piece, Nest}
use Rattle.grammar.specs.Tokens.{sign, keyword}
use Rattle.text.specs.declared.row.Row.{Row}
use Rattle.text.specs.declared.row.Row.TheVariants.{Conjunction, Disjunction, Equivalence}

-- the first character of what joins the formulas
abbrev pub first_of : Row → ℕ
first_of Conjunction = 97
first_of Disjunction = 111
first_of Equivalence = 60

abbrev pub between_of : Row → Reader (Unit {0})
between_of Conjunction = keyword (codes "and")
between_of Disjunction = keyword (codes "or")
between_of Equivalence = sign (codes "<->")

abbrev pub join_of : Row → Formula → Formula → Formula
join_of Conjunction = And
join_of Disjunction = Or
join_of Equivalence = equivalent

-- the level below
abbrev pub operand_of : Row → List Word → Nest → Reader Piece
operand_of Conjunction = atom
operand_of Disjunction = conjunction
operand_of Equivalence = implication

abbrev pub row_of : Row → List Word → Nest → Reader Piece
row_of Conjunction = conjunction
row_of Disjunction = disjunction
row_of Equivalence = equivalence
