-- What a table needs to know to make its rows from those of the table within it. Assumes nothing.
use Rattle.std.specs.Prelude.{Bool, true, false, List, [], ◌∷◌, map, ℕ, Option, Some, None}
use Rattle.field.specs.declared.sign.Sign.{Sign}
use Rattle.field.specs.declared.sign.Sign.TheVariants.{Zero}
use Rattle.sign_table.specs.Leadings.{Left, Plain, Real}
use Rattle.sign_table.specs.Deduce.{deduced, all_known, inserted}

-- A plan says of each polynomial the sign that it has in every row; none: it takes the next of the real ones' signs. p stands at this place among the real ones; so many others, with p's derivative, stand before the remainders in a row of the table within
pub record Stage : Type 0 where
  pub plan : List (Option Sign)
  pub place : ℕ
  pub divisors : ℕ

-- the signs of all, from those of the real ones
unfoldable pub filled_by : List (Option Sign) → List Sign → List Sign
filled_by [] r = []
filled_by (Some s ∷ ss) r = s ∷ filled_by ss r
filled_by (None ∷ ss) [] = Zero ∷ filled_by ss []
filled_by (None ∷ ss) (t ∷ r) = t ∷ filled_by ss r

abbrev pub slot_of : Left → Option Sign
slot_of (Plain s) = Some s
slot_of (Real p s) = None

abbrev pub plan_of : List Left → List (Option Sign)
plan_of ls = map slot_of ls

-- what a run over rows comes to; a gap: p's sign is unknown in a row that stays
pub data Outcome (A : Type 0) : Type 0 where
  Gap : Outcome A
  Went : A → Outcome A

abbrev pub upon : {A B : Type 0} → Outcome A → (A → Outcome B) → Outcome B
upon Gap k = Gap
upon (Went a) k = k a

abbrev pub went_if : {A : Type 0} → Bool → A → Outcome A
went_if true a = Went a
went_if false a = Gap

-- a table's rows, from those of the table within
abbrev pub table_rows : Stage → List (List Sign) → Outcome (List (List Sign))
table_rows f m =
    let ws = deduced f.divisors m in
    went_if (all_known ws) (map (filled_by f.plan) (inserted f.place ws))

-- the outermost table's rows, from those of the table within all of these, the innermost first
unfoldable pub outermost_rows : List Stage → List (List Sign) → Outcome (List (List Sign))
outermost_rows [] m = Went m
outermost_rows (f ∷ fs) m = upon (table_rows f m) (λ out. outermost_rows fs out)
