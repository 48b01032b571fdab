-- A misfit is one for good: what stands behind the place doesn't matter. Assumes nothing.
use Rattle.std.specs.Prelude.{◌≡◌, ℕ, ◌≤◌, List, take, Err}
use Rattle.grammar.specs.declared.refusal.Refusal.TheVariants.{Misfit}
use Rattle.grammar.specs.Characters.{characters}
use Rattle.grammar.specs.Text.{reading}
use Rattle.grammar.specs.Tokens.{longest}

-- a text refused by 5 at place k, and another with the same first k characters, not too long
abbrev pub RefusedForGood : Type 0
RefusedForGood =
    (text other : List ℕ) (k : ℕ) → characters other ≤ longest → take k text ≡ take k other → reading text ≡ Err (Misfit k) → reading other ≡ Err (Misfit k)
