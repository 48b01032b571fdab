-- What is left of a table's polynomials, and the real ones among them. Assumes nothing.
use Rattle.std.specs.Prelude.{◌≡◌, ℕ, ◌+◌, ◌-◌, ◌<◌, ◌≤◌, cond, List, [], ◌∷◌, ◌++◌, length, get_or, Some, None, Option, nat_lt, slice_index_or}
use Rattle.poly.specs.Leading.{degree}
use Rattle.sign_table.specs.Leadings.{Left, reals}
use Rattle.sign_table.specs.Table.{poly_of, highest, none_left}
use Rattle.machine.specs.Machine.{highest_place}
use Rattle.machine.specs.Stacks.{forth}
use Rattle.table_machine.specs.declared.outlook.Top.{Top}
use Rattle.stacks.specs.declared.marks.Marks.{Marks}
use Rattle.stacks.specs.Values.{left_in}
use Rattle.stacks.specs.Memories.{Cells, left_from}

-- what is left of the i-th polynomial of the table
abbrev pub table_left : ℕ → Cells → Marks → ℕ → Left
table_left n c m i = left_from n c.slots (m.base + i) (left_in c.lefts (m.base + i))

-- the real ones from the i-th on
abbrev pub reals_from : ℕ → Cells → Marks → ℕ → List Left
reals_from n c m i = reals (forth (table_left n c m) i (m.done - i))

-- the real polynomial of the highest degree so far: of the real ones before place i, `count` of them, it is at `place` among them and at `index` in the table
pub record Highest (n : ℕ) (c : Cells) (m : Marks) (count i : ℕ) (t : Top) : Type 0 where
  pub first : Left
  pub others : List Left
  pub all : reals_from n c m 0 ≡ first ∷ others
  pub best : highest_place first others ≡ highest count t.place t.degree (reals_from n c m i)
  pub front : List Left
  pub parted : first ∷ others ≡ front ++ reals_from n c m i
  pub counted : length front ≡ count
  pub here : get_or front t.place none_left ≡ table_left n c m t.index
  pub place_bound : t.place < count
  pub index_bound : t.index < m.done
  pub few : count ≤ i

-- or none of those before place i is real
abbrev pub HighestSoFar : ℕ → Cells → Marks → (count i : ℕ) → Option Top → Type 0
HighestSoFar n c m count i None = (count ≡ 0) × (reals_from n c m i ≡ reals_from n c m 0)
HighestSoFar n c m count i (Some t) = Highest n c m count i t

-- what is left has this polynomial of the highest degree, where any is real
abbrev pub FoundHighest : ℕ → Cells → Marks → Option Top → Type 0
FoundHighest n c m None = reals_from n c m 0 ≡ []
FoundHighest n c m (Some t) = (l : Left) × (ls : List Left) × (reals_from n c m 0 ≡ l ∷ ls) × (t.place ≡ highest_place l ls) × (slice_index_or (l ∷ ls) t.place none_left ≡ table_left n c m t.index) × (t.index < m.done)

-- the i-th, which is real, as the highest; `count` real ones come before it
abbrev pub top_here : ℕ → Cells → Marks → (i count : ℕ) → Top
top_here n c m i count = record { index = i; place = count; degree = degree (poly_of (table_left n c m i)) }

-- the higher of the highest so far and the i-th, the first if they are equal
abbrev pub higher_of : ℕ → Cells → Marks → Option Top → (i count : ℕ) → Top
higher_of n c m None i count = top_here n c m i count
higher_of n c m (Some t) i count = cond (nat_lt t.degree (degree (poly_of (table_left n c m i)))) (top_here n c m i count) t
