-- How numbers change when some are put on top of them. Assumes nothing.
use Rattle.std.specs.Prelude.{◌≡◌, ℕ, ◌+◌, List, ◌++◌, length, take, ℤ}

-- from a top and the cells to a new top and the cells then: what stood still stands, and above it the new numbers do
pub record Grown (new : List ℤ) (top : ℕ) (cells : List ℤ) (top' : ℕ) (cells' : List ℤ) : Type 0 where
  pub stands : take top' cells' ≡ take top cells ++ new
  pub higher : top' ≡ top + length new
  pub long : length cells' ≡ length cells

-- nothing has changed
pub record Kept (top : ℕ) (cells : List ℤ) (top' : ℕ) (cells' : List ℤ) : Type 0 where
  pub same_top : top' ≡ top
  pub same_cells : cells' ≡ cells
