-- The rows that leave a table as others come are those that it deduces from all of them. Assumes nothing.
use mathlib.Core.Path.{◌≡◌, refl, sym, ◌∙◌, ap}
use mathlib.Core.Bool.{Bool, true, false, cond}
use mathlib.Core.List.{List, [], ◌∷◌, ◌++◌, map}
use lib.ListN.{take, drop}
use Rattle.std.specs.Prelude.{Option, Some, None}
use Rattle.field.specs.declared.sign.Sign.{Sign}
use Rattle.field.specs.declared.sign.Sign.TheVariants.{Zero}
use Rattle.field.specs.Sign.{flip}
use Rattle.sign_table.specs.Facts.{Known, Unknown, Is}
use Rattle.sign_table.specs.Deduce.{Row, rows_of, row_of, at_root, any_zero, kept_if, condensed_by, condensed, intervals, between, first_sign, without_first_sign, far_left, row_is, row_unknown, dropped, condensed_all, all_known, insert_at, inserted}
use Rattle.stream.specs.Stage.{Stage, filled_by, Outcome, Gap, Went, upon, went_if, table_rows}
use Rattle.stream.specs.declared.way.Way.{Way}
use Rattle.stream.specs.declared.way.Way.TheVariants.{Stays, Crosses}
use Rattle.stream.specs.Step.{way_between, Side, Far, After, Clear, left_end, point_stays, until_point, until_end, point_taken, stepped, closing, flow}
use Rattle.stream.proofs.Outcome.{upon_went, upon-upon, upon_if}
use Rattle.stream.proofs.Along.{along, between_along, lost_unknown}

-- the rows of a table whose points are condensed, if p is known in all
abbrev rows_given : Stage → List Row → Outcome (List (List Sign))
rows_given f ws = went_if (all_known ws) (map (filled_by f.plan) (inserted f.place ws))

abbrev left_of_rows : Side → List Row → Known
left_of_rows Far rs = far_left rs
left_of_rows (After p) rs = p

left_first : (side : Side) (r : Row) (rs : List Row) → left_of_rows side (r ∷ rs) ≡ left_end side r.others
left_first Far r rs = refl
left_first (After p) r rs = refl

-- what is deduced right of this side
abbrev deduced_from : Side → List Row → List Row
deduced_from side rs = condensed_all (dropped (intervals (left_of_rows side rs) rs))

module _ (f : Stage) where
  -- these rows, then those of ws
  given_after : (out : List (List Sign)) (ws : List Row) → upon (rows_given f ws) (λ rows. Went (out ++ rows)) ≡ went_if (all_known ws) (out ++ map (filled_by f.plan) (inserted f.place ws))
  given_after out ws = upon_if (all_known ws) (map (filled_by f.plan) (inserted f.place ws)) (λ rows. out ++ rows)

  last-interval : (w : Option Way) (o : List Sign) → until_end f w o ≡ rows_given f (condensed_all (dropped (along w o [])))
  unfolding all_known condensed_by
  last-interval (Some (Stays s)) o = refl
  last-interval (Some (Crosses s)) o = refl
  last-interval None o = refl

  -- what leaves, then the rows of ws
  abbrev before_rows : List Row → List (List Sign) → Outcome (List (List Sign))
  before_rows ws out = upon (rows_given f ws) (λ rows. Went (out ++ rows))

  -- the row in which p and the others have these signs
  abbrev row_out : Sign → List Sign → List Sign
  row_out s o = filled_by f.plan (insert_at f.place s o)

  lost_if : (b : Bool) (o : List Sign) (x : Row) (ws : List Row) → upon (cond b Gap (Went [])) (before_rows ws) ≡ rows_given f (kept_if b (row_unknown o) x ws)
  unfolding all_known
  lost_if true o x ws = refl
  lost_if false o x ws = upon_went (rows_given f ws)

  stays_if : (b : Bool) (s t : Sign) (o x : List Sign) (ws : List Row) →
      before_rows ws (cond b (row_out s o ∷ row_out t x ∷ []) []) ≡ rows_given f (kept_if b (row_is s o) (row_is t x) ws)
  unfolding all_known
  stays_if true s t o x ws = given_after (row_out s o ∷ row_out t x ∷ []) ws
  stays_if false s t o x ws = upon_went (rows_given f ws)

  crosses_if : (b : Bool) (s t : Sign) (o x : List Sign) (ws : List Row) →
      before_rows ws (row_out s o ∷ row_out Zero o ∷ cond b (row_out (flip s) o ∷ row_out t x ∷ []) []) ≡
      rows_given f (row_is s o ∷ row_is Zero o ∷ kept_if b (row_is (flip s) o) (row_is t x) ws)
  unfolding all_known
  crosses_if true s t o x ws = given_after (row_out s o ∷ row_out Zero o ∷ row_out (flip s) o ∷ row_out t x ∷ []) ws
  crosses_if false s t o x ws = given_after (row_out s o ∷ row_out Zero o ∷ []) ws

  -- an interval along which p goes this way, the point after it, and then the rows R
  PairGiven : Option Way → List Sign → Known → List Sign → List Row → Type 0
  PairGiven w o p x R =
      upon (until_point f w o p x) (before_rows (condensed_all (dropped R))) ≡
      rows_given f (condensed_all (dropped (along w o (record { this = p; others = x } ∷ R))))

  pair_lost : (o : List Sign) (p : Known) (x : List Sign) (R : List Row) → PairGiven None o p x R
  unfolding PairGiven condensed_by
  pair_lost o p x R = lost_if (point_stays p x) (without_first_sign o) (record { this = p; others = without_first_sign x }) (condensed_all (dropped R))

  pair_known : (w : Option Way) (o : List Sign) (t : Sign) (x : List Sign) (R : List Row) → PairGiven w o (Is t) x R
  unfolding PairGiven condensed_by
  pair_known (Some (Stays s)) o t x R = stays_if (point_stays (Is t) x) s t (without_first_sign o) (without_first_sign x) (condensed_all (dropped R))
  pair_known (Some (Crosses s)) o t x R = crosses_if (point_stays (Is t) x) s t (without_first_sign o) (without_first_sign x) (condensed_all (dropped R))
  pair_known None o t x R = pair_lost o (Is t) x R

  pair_given : (left : Known) (o : List Sign) (p : Known) (x : List Sign) (R : List Row) → PairGiven (way_between left p) o p x R
  pair_given left o (Is t) x R = pair_known (way_between left (Is t)) o t x R
  pair_given left o Unknown x R = rw (lost_unknown left) (pair_lost o Unknown x R)

  -- a point comes after an interval, and then the rows m, whose rows of signs are rs
  point_given : (b : Bool) (side : Side) (q : Known) (o : List Sign) (p : Known) (x : List Sign) (m : List (List Sign)) (rs : List Row) →
      ((s : Side) → flow f (Clear s) m ≡ rows_given f (deduced_from s rs)) →
      upon (point_taken b f side o p x) (λ s. upon (flow f s.cell m) (λ rows. Went (s.leaving ++ rows))) ≡
      rows_given f (deduced_from side (kept_if b (record { this = q; others = o }) (record { this = p; others = x }) rs))
  unfolding PairGiven intervals
  point_given false side q o p x m rs ih = upon_went (flow f (Clear side) m) ∙ ih side
  point_given true side q o p x m rs ih =
      let i : Row = record { this = q; others = o } in
      let e : Row = record { this = p; others = x } in
      let w : Option Way = way_between (left_end side o) p in
      upon-upon (until_point f w o p x) (λ out. Went (record { cell = Clear (After p); leaving = out })) (λ s. upon (flow f s.cell m) (λ rows. Went (s.leaving ++ rows)))
      ∙ ap (λ r. upon (until_point f w o p x) (λ out. upon r (λ rows. Went (out ++ rows)))) (ih (After p))
      ∙ pair_given (left_end side o) o p x (intervals p rs)
      ∙ ap (λ z. rows_given f (condensed_all (dropped z))) (sym (between_along (left_end side o) p o (e ∷ intervals p rs)))
      ∙ ap (λ l. rows_given f (condensed_all (dropped (between l p o (e ∷ intervals p rs))))) (sym (left_first side i (e ∷ rs)))

  flow_from : (side : Side) (m : List (List Sign)) → flow f (Clear side) m ≡ rows_given f (deduced_from side (condensed (rows_of f.divisors m)))
  unfolding flow stepped closing condensed_by intervals all_known
  flow_from side [] = refl
  flow_from side (i ∷ []) =
      let o = take f.divisors i in
      let r = row_of f.divisors i in
      upon_went (until_end f (way_between (left_end side o) (Is (first_sign o))) o)
      ∙ last-interval (way_between (left_end side o) (Is (first_sign o))) o
      ∙ ap (λ z. rows_given f (condensed_all (dropped z))) (sym (between_along (left_end side o) (Is (first_sign o)) o []))
      ∙ ap (λ l. rows_given f (condensed_all (dropped (between l (Is (first_sign o)) o [])))) (sym (left_first side r []))
  flow_from side (i ∷ x ∷ m) =
      let l = f.divisors in
      upon_went _
      ∙ point_given (any_zero (take l x)) side (at_root (take l i) (drop l i)) (take l i) (at_root (take l x) (drop l x)) (take l x) m (condensed (rows_of l m)) (λ s. flow_from s m)

pub flow_deduces : (f : Stage) (m : List (List Sign)) → flow f (Clear Far) m ≡ table_rows f m
flow_deduces f m = flow_from f Far m
