-- From the rows of signs of the derivative of p, some other polynomials, and the remainders of p by all of these, to the rows of p and the others.
-- Rows are by turns those of an interval and of the point after it, from left to right; the first and the last are of intervals. Assumes nothing.
use Rattle.std.specs.Prelude.{Bool, true, false, cond, ◌&&◌, ◌||◌, List, [], ◌∷◌, map, ℕ, zero, suc, take, drop}
use Rattle.field.specs.declared.sign.Sign.{Sign}
use Rattle.field.specs.declared.sign.Sign.TheVariants.{Neg, Zero, Pos}
use Rattle.field.specs.Sign.{flip}
use Rattle.sign_table.specs.Facts.{Known, Unknown, Is}

-- the sign of p, if it is known, and those of the others, the derivative's first
pub record Row : Type 0 where
  pub this : Known
  pub others : List Sign

abbrev pub is_zero_sign : Sign → Bool
is_zero_sign Neg = false
is_zero_sign Zero = true
is_zero_sign Pos = false

unfoldable pub any_zero : List Sign → Bool
any_zero [] = false
any_zero (s ∷ ss) = is_zero_sign s || any_zero ss

-- where one of the others is zero, p has the sign of its remainder by that one
unfoldable pub at_root : List Sign → List Sign → Known
at_root [] rs = Unknown
at_root (s ∷ ss) [] = Unknown
at_root (s ∷ ss) (r ∷ rs) = cond (is_zero_sign s) (Is r) (at_root ss rs)

-- the first l signs are the others', then come the remainders'
abbrev pub row_of : ℕ → List Sign → Row
row_of l r = record { this = at_root (take l r) (drop l r); others = take l r }

abbrev pub rows_of : ℕ → List (List Sign) → List Row
rows_of l m = map (row_of l) m

-- an interval and the point after it stay, or both go
abbrev pub kept_if : Bool → Row → Row → List Row → List Row
kept_if true i x rs = i ∷ x ∷ rs
kept_if false i x rs = rs

-- a point that the test doesn't want goes, with the interval before it: the interval after it has the same signs
unfoldable pub condensed_by : (Row → Bool) → List Row → List Row
condensed_by wanted [] = []
condensed_by wanted (i ∷ []) = i ∷ []
condensed_by wanted (i ∷ x ∷ rs) = kept_if (wanted x) i x (condensed_by wanted rs)

-- only points where one of the others is zero
abbrev pub condensed : List Row → List Row
condensed rs = condensed_by (λ x. any_zero x.others) rs

abbrev pub row_is : Sign → List Sign → Row
row_is s o = record { this = Is s; others = o }

abbrev pub row_unknown : List Sign → Row
row_unknown o = record { this = Unknown; others = o }

-- The derivative isn't zero on an interval between two such points, so p has one sign there, or opposite signs on both sides of one root.
-- Given: the signs of p at the two ends, and the others' signs between. Two zeros can't be; unknown stays unknown.
abbrev pub between : Known → Known → List Sign → List Row → List Row
between (Is Neg) (Is Neg) o rest = row_is Neg o ∷ rest
between (Is Neg) (Is Zero) o rest = row_is Neg o ∷ rest
between (Is Neg) (Is Pos) o rest = row_is Neg o ∷ row_is Zero o ∷ row_is Pos o ∷ rest
between (Is Zero) (Is Neg) o rest = row_is Neg o ∷ rest
between (Is Zero) (Is Zero) o rest = row_unknown o ∷ rest
between (Is Zero) (Is Pos) o rest = row_is Pos o ∷ rest
between (Is Pos) (Is Neg) o rest = row_is Pos o ∷ row_is Zero o ∷ row_is Neg o ∷ rest
between (Is Pos) (Is Zero) o rest = row_is Pos o ∷ rest
between (Is Pos) (Is Pos) o rest = row_is Pos o ∷ rest
between (Is s) Unknown o rest = row_unknown o ∷ rest
between Unknown (Is s) o rest = row_unknown o ∷ rest
between Unknown Unknown o rest = row_unknown o ∷ rest

abbrev pub first_sign : List Sign → Sign
first_sign [] = Zero
first_sign (s ∷ ss) = s

-- left: p's sign at the point on the left of the next interval. Far to the right p has its derivative's sign
unfoldable pub intervals : Known → List Row → List Row
intervals left [] = []
intervals left (i ∷ []) = between left (Is (first_sign i.others)) i.others []
intervals left (i ∷ x ∷ rs) = between left x.this i.others (x ∷ intervals x.this rs)

-- far to the left p has the sign opposite to its derivative's
abbrev pub far_left : List Row → Known
far_left [] = Unknown
far_left (r ∷ rs) = Is (flip (first_sign r.others))

abbrev pub without_first_sign : List Sign → List Sign
without_first_sign [] = []
without_first_sign (s ∷ ss) = ss

-- without the derivative's sign
abbrev pub dropped : List Row → List Row
dropped rs = map (λ r. record { this = r.this; others = without_first_sign r.others }) rs

abbrev pub known_zero : Known → Bool
known_zero Unknown = false
known_zero (Is s) = is_zero_sign s

-- only points where p or one of the others is zero
abbrev pub condensed_all : List Row → List Row
condensed_all rs = condensed_by (λ x. known_zero x.this || any_zero x.others) rs

abbrev pub is_known : Known → Bool
is_known Unknown = false
is_known (Is s) = true

unfoldable pub all_known : List Row → Bool
all_known [] = true
all_known (r ∷ rs) = is_known r.this && all_known rs

unfoldable pub insert_at : ℕ → Sign → List Sign → List Sign
insert_at zero s ss = s ∷ ss
insert_at (suc i) s [] = s ∷ []
insert_at (suc i) s (t ∷ ss) = t ∷ insert_at i s ss

abbrev pub the_sign : Known → Sign
the_sign Unknown = Zero
the_sign (Is s) = s

-- the sign of p at place i among the others'
abbrev pub inserted : ℕ → List Row → List (List Sign)
inserted i rs = map (λ r. insert_at i (the_sign r.this) r.others) rs

-- l: how many others there are, with the derivative
abbrev pub deduced : ℕ → List (List Sign) → List Row
deduced l m = let rs = condensed (rows_of l m) in condensed_all (dropped (intervals (far_left rs) rs))
