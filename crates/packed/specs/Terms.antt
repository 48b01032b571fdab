-- The monomials of a stored polynomial. Assumes nothing.
use Rattle.std.specs.Prelude.{ℕ, List, ℤ, pos, slice_index_or}
use Rattle.packed.specs.declared.term.Term.{Term}
use Rattle.packed.specs.declared.view.View.{View}
use Rattle.terms.specs.Monomial.{Monomial, monomial}
use Rattle.terms.specs.Cells.{monomial_of, monomials_of}

abbrev pub terms_in : View → List Monomial
terms_in v = monomials_of v.cells.now

-- the monomial at a place
abbrev pub term_at : List Monomial → ℕ → Monomial
term_at ts i = slice_index_or ts i (monomial 0 (pos 0))

abbrev pub monomial_in : Term → Monomial
monomial_in t = monomial t.key t.coefficient

abbrev pub term_of : ℤ → Term
term_of z = let m = monomial_of z in record { key = m.key; coefficient = m.times }
