-- A list of monomials stored at an arena's top, if it is modest. Assumes nothing.
use Rattle.std.specs.Prelude.{◌≡◌, ℕ, true, false, List, length, ℤ, Ok, Err, Result}
use Rattle.terms.specs.Monomial.{Monomial}
use Rattle.terms.specs.ModestTerms.{modest_terms}
use Rattle.terms.specs.Cells.{cells_of, monomials_of}
use Rattle.packed.specs.Stored.{Stored}
use Rattle.arena.specs.Growth.{Grown, Kept}

-- so many numbers were pushed, and they are the list as a stored polynomial
pub record Packed (count : ℕ) (ts : List Monomial) (top : ℕ) (cells : List ℤ) (top' : ℕ) (cells' : List ℤ) : Type 0 where
  pub modest : modest_terms 4 ts ≡ true
  pub counted : count ≡ length ts
  pub grown : Grown (cells_of ts) top cells top' cells'
  pub good : Stored (cells_of ts)
  pub back : monomials_of (cells_of ts) ≡ ts

-- stored, or refused since the list isn't modest
abbrev pub stored : {E : Type 0} → Result ℕ E → List Monomial → ℕ → List ℤ → ℕ → List ℤ → Type 0
stored (Ok count) ts top cells top' cells' = Packed count ts top cells top' cells'
stored (Err _) ts top cells top' cells' = (modest_terms 4 ts ≡ false) × Kept top cells top' cells'
