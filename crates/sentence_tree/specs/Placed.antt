-- A polynomial at the top of an arena, or none where it isn't modest. Assumes nothing.
use Rattle.std.specs.Prelude.{◌≡◌, ℕ, List, length, take, ℤ, Some, None, Option}
use Rattle.poly.specs.Poly.{Poly}
use Rattle.poly.specs.Modest.{Checked, TooBig, Fine, checked}
use Rattle.terms.specs.Monomial.{Monomial}
use Rattle.terms.specs.Cells.{monomials_of}
use Rattle.arena.specs.Growth.{Grown}
use Rattle.packed.specs.Stored.{Stored}
use Rattle.storage.specs.Denoting.{Denotes, Checks}

-- the top is where it was, and nothing below it has changed
pub record Stays (top : ℕ) (cells : List ℤ) (top' : ℕ) (cells' : List ℤ) : Type 0 where
  pub same_top : top' ≡ top
  pub below : take top cells' ≡ take top cells
  pub long : length cells' ≡ length cells

-- so many numbers at the top are the polynomial
pub record Standing (n : ℕ) (p : Poly) (count top : ℕ) (cells : List ℤ) (top' : ℕ) (cells' : List ℤ) : Type 0 where
  pub numbers : List ℤ
  pub counted : count ≡ length numbers
  pub good : Stored numbers
  pub denotes : Denotes n (monomials_of numbers) p
  pub grown : Grown numbers top cells top' cells'

-- the polynomial, or nothing where it isn't modest
abbrev pub Placed : ℕ → Checked → Option ℕ → ℕ → List ℤ → ℕ → List ℤ → Type 0
Placed n TooBig None top cells top' cells' = Stays top cells top' cells'
Placed n TooBig (Some c) top cells top' cells' = ⊥
Placed n (Fine p) None top cells top' cells' = ⊥
Placed n (Fine p) (Some c) top cells top' cells' = Standing n p c top cells top' cells'

-- whichever polynomial the list checks
abbrev pub Places : List Monomial → Option ℕ → ℕ → List ℤ → ℕ → List ℤ → Type 0
Places ts r top cells top' cells' = (n : ℕ) (p : Poly) → Checks n ts p → Placed n (checked n p) r top cells top' cells'
