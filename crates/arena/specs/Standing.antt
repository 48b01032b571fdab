-- The numbers of an arena that stand, which loan they lie in, and what a push does to them. Assumes nothing.
use Rattle.std.specs.Prelude.{◌≡◌, ◌+◌, ◌<◌, List, [], ◌∷◌, length, take, ℤ, Ok, Err, Result}
use Rattle.arena.specs.declared.arena.Arena.{Arena}
use Rattle.arena.specs.Growth.{Grown, Kept}

abbrev pub standing : Arena → List ℤ
standing a = take a.top a.cells.now

-- the same loan, of as many numbers
pub record SameLoan (before after : Arena) : Type 0 where
  pub long : length after.cells.now ≡ length before.cells.now
  pub lent : after.cells.ghost_name ≡ before.cells.ghost_name

-- these numbers stand on top of those that stood
abbrev pub GrownBy : List ℤ → (before after : Arena) → Type 0
GrownBy new before after = Grown new before.top before.cells.now after.top after.cells.now

abbrev pub Unchanged : (before after : Arena) → Type 0
Unchanged before after = Kept before.top before.cells.now after.top after.cells.now

-- one number pushed, or refused since all are in use
abbrev pub pushed : {E : Type 0} → Result (Unit {0}) E → ℤ → (before after : Arena) → Type 0
pushed (Ok _) value before after = GrownBy (value ∷ []) before after
pushed (Err _) value before after = (before.top ≡ length before.cells.now) × Unchanged before after

-- so many numbers pushed, or refused since there is no room for them
abbrev pub all_pushed : {E : Type 0} → Result (Unit {0}) E → List ℤ → (before after : Arena) → Type 0
all_pushed (Ok _) values before after = GrownBy values before after
all_pushed (Err _) values before after = (length before.cells.now < before.top + length values) × Unchanged before after
