-- A formula as a tree of questions: the signs of its terms' polynomials. Assumes nothing.
use Rattle.std.specs.Prelude.{ℕ}
use Rattle.field.specs.Sentence.{Formula, BelowZero, EqualsZero, Not, And, Or}
use Rattle.poly.specs.Modest.{Checked, TooBig, Fine, term_poly}
use Rattle.sign_table.specs.Tree.{Tree, GivenUp, Ask}

-- the question about a polynomial, which is given up where it isn't modest
abbrev pub asks : Checked → (below at above : Tree) → Tree
asks TooBig a b c = GivenUp
asks (Fine p) a b c = Ask p a b c

-- a formula with n variables, given the trees to go on with where it holds and where it doesn't.
-- The second part of an and is asked where the first holds, that of an or where the first doesn't
unfoldable pub formula_tree : ℕ → Formula → (yes no : Tree) → Tree
formula_tree n (BelowZero t) y o = asks (term_poly n t) y o o
formula_tree n (EqualsZero t) y o = asks (term_poly n t) o y o
formula_tree n (Not p) y o = formula_tree n p o y
formula_tree n (And p q) y o = formula_tree n p (formula_tree n q y o) o
formula_tree n (Or p q) y o = formula_tree n p y (formula_tree n q y o)
