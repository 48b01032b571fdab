-- A polynomial of a slot, copied to an arena. Assumes nothing.
use Rattle.std.specs.Prelude.{◌≡◌, ℕ, ◌+◌, ◌<◌, ◌≤◌, List, length, take, ℤ, Ok, Err, Result}
use Rattle.arena.specs.Growth.{Kept}
use Rattle.storage.specs.declared.span.Span.{Span}
use Rattle.storage.specs.Spans.{Holds, cells_at}
use Rattle.stacks.specs.Slots.{slot_in}

-- the first monomials of a slot lie at the span, and what stood below still stands
pub record Loaded (slots : List ℤ) (slot count : ℕ) (s : Span) (top : ℕ) (cells : List ℤ) (top' : ℕ) (cells' : List ℤ) : Type 0 where
  pub holds : Holds s top' cells'
  pub same : cells_at s cells' ≡ take count (slot_in slots slot)
  pub below : take top cells' ≡ take top cells
  pub long : length cells' ≡ length cells
  pub above : top ≤ top'

-- or there is no room, and nothing has changed
abbrev pub loaded : {E : Type 0} → Result Span E → List ℤ → (slot count : ℕ) → ℕ → List ℤ → ℕ → List ℤ → Type 0
loaded (Ok s) slots slot count top cells top' cells' = Loaded slots slot count s top cells top' cells'
loaded (Err _) slots slot count top cells top' cells' = (length cells < top + 64) × Kept top cells top' cells'
