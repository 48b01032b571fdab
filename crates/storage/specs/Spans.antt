-- Where stored polynomials lie in an arena. Assumes nothing.
use Rattle.std.specs.Prelude.{ℕ, ◌+◌, ◌≤◌, List, take, drop, ℤ}
use Rattle.terms.specs.Monomial.{Monomial}
use Rattle.terms.specs.Cells.{monomials_of}
use Rattle.packed.specs.Stored.{Stored}
use Rattle.storage.specs.declared.span.Span.{Span}

abbrev pub cells_at : Span → List ℤ → List ℤ
cells_at s cells = take s.count (drop s.from cells)

abbrev pub terms_at : Span → List ℤ → List Monomial
terms_at s cells = monomials_of (cells_at s cells)

-- a stored polynomial lies there, below the top
pub record Holds (s : Span) (top : ℕ) (cells : List ℤ) : Type 0 where
  pub below : s.from + s.count ≤ top
  pub good : Stored (cells_at s cells)
