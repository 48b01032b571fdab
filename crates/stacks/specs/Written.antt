-- What is written into cells, and what is read of them afterwards. Assumes nothing.
use Rattle.std.specs.Prelude.{◌≡◌, ℕ, ◌+◌, ◌<◌, ◌≤◌, List, length, take, drop, ℤ, pos, slice_index_or}

-- these numbers stand from a place on, and all other cells are as before
pub record Put (at : ℕ) (values before after : List ℤ) : Type 0 where
  pub long : length after ≡ length before
  pub there : (j : ℕ) → j < length values → slice_index_or after (at + j) (pos 0) ≡ slice_index_or values j (pos 0)
  pub under : (j : ℕ) → j < at → slice_index_or after j (pos 0) ≡ slice_index_or before j (pos 0)
  pub over : (j : ℕ) → at + length values ≤ j → slice_index_or after j (pos 0) ≡ slice_index_or before j (pos 0)

-- the i-th value reads as the one written, and all others as before
pub record Written {A : Type 0} (read : List ℤ → ℕ → A) (i : ℕ) (value : A) (before after : List ℤ) : Type 0 where
  pub long : length after ≡ length before
  pub there : read after i ≡ value
  pub under : (j : ℕ) → j < i → read after j ≡ read before j
  pub over : (j : ℕ) → i < j → read after j ≡ read before j

-- w numbers from a place on
abbrev pub part : (w at : ℕ) → List ℤ → List ℤ
part w at cells = take w (drop at cells)
