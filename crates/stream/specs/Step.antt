-- A table takes the rows of the table within it one by one, and hands on its own rows as soon as they are known. Assumes nothing.
use Rattle.std.specs.Prelude.{Bool, true, false, cond, ◌||◌, List, [], ◌∷◌, ◌++◌, take, drop, Option, Some, None}
use Rattle.field.specs.declared.sign.Sign.{Sign}
use Rattle.field.specs.declared.sign.Sign.TheVariants.{Neg, Zero, Pos}
use Rattle.field.specs.Sign.{flip}
use Rattle.sign_table.specs.Facts.{Known, Unknown, Is}
use Rattle.sign_table.specs.Deduce.{any_zero, at_root, first_sign, without_first_sign, known_zero, insert_at, the_sign}
use Rattle.stream.specs.declared.way.Way.{Way}
use Rattle.stream.specs.declared.way.Way.TheVariants.{Stays, Crosses}
use Rattle.stream.specs.Stage.{Stage, filled_by, Outcome, Gap, Went, upon}

-- how p goes along an interval on which its derivative isn't zero, from its signs at the two ends; none: that isn't known
abbrev pub way_between : Known → Known → Option Way
way_between (Is Neg) (Is Neg) = Some (Stays Neg)
way_between (Is Neg) (Is Zero) = Some (Stays Neg)
way_between (Is Neg) (Is Pos) = Some (Crosses Neg)
way_between (Is Zero) (Is Neg) = Some (Stays Neg)
way_between (Is Zero) (Is Zero) = None
way_between (Is Zero) (Is Pos) = Some (Stays Pos)
way_between (Is Pos) (Is Neg) = Some (Crosses Pos)
way_between (Is Pos) (Is Zero) = Some (Stays Pos)
way_between (Is Pos) (Is Pos) = Some (Stays Pos)
way_between (Is s) Unknown = None
way_between Unknown (Is s) = None
way_between Unknown Unknown = None

-- what lies left of an interval: no point that stays, or one, with p's sign there
pub data Side : Type 0 where
  Far : Side
  After : Known → Side

-- what a table keeps between two rows, which are by turns of an interval and of the point after it: only the side; or the others' signs on the interval too
pub data Cell : Type 0 where
  Clear : Side → Cell
  Held : Side → List Sign → Cell

-- p's sign at the left end of an interval with these signs of the others, the derivative's first
abbrev pub left_end : Side → List Sign → Known
left_end Far o = Is (flip (first_sign o))
left_end (After p) o = p

-- the row in which p has this sign, and the derivative and the others have these
abbrev pub handed_on : Stage → Sign → List Sign → List Sign
handed_on f s o = filled_by f.plan (insert_at f.place s (without_first_sign o))

-- a point stays where p or one of the others but the derivative is zero
abbrev pub point_stays : Known → List Sign → Bool
point_stays p x = known_zero p || any_zero (without_first_sign x)

-- the rows of an interval, where the others' signs are o, and of the point after it, where p's and theirs are p and x
abbrev pub until_point : Stage → Option Way → List Sign → Known → List Sign → Outcome (List (List Sign))
until_point f (Some (Stays s)) o p x = Went (cond (point_stays p x) (handed_on f s o ∷ handed_on f (the_sign p) x ∷ []) [])
until_point f (Some (Crosses s)) o p x =
    Went (handed_on f s o ∷ handed_on f Zero o ∷ cond (point_stays p x) (handed_on f (flip s) o ∷ handed_on f (the_sign p) x ∷ []) [])
until_point f None o p x = cond (point_stays p x) Gap (Went [])

-- the rows of the last interval
abbrev pub until_end : Stage → Option Way → List Sign → Outcome (List (List Sign))
until_end f (Some (Stays s)) o = Went (handed_on f s o ∷ [])
until_end f (Some (Crosses s)) o = Went (handed_on f s o ∷ handed_on f Zero o ∷ handed_on f (flip s) o ∷ [])
until_end f None o = Gap

-- what is kept, and the rows that leave
pub record Stepped : Type 0 where
  pub cell : Cell
  pub leaving : List (List Sign)

-- a point that doesn't stay, as none of the others is zero there, goes with the interval before it
abbrev pub point_taken : (stays : Bool) → Stage → Side → List Sign → Known → List Sign → Outcome Stepped
point_taken true f side o p x = upon (until_point f (way_between (left_end side o) p) o p x) (λ out. Went (record { cell = Clear (After p); leaving = out }))
point_taken false f side o p x = Went (record { cell = Clear side; leaving = [] })

-- the next row comes
unfoldable pub stepped : Stage → Cell → List Sign → Outcome Stepped
stepped f (Clear side) r = Went (record { cell = Held side (take f.divisors r); leaving = [] })
stepped f (Held side o) r = let x = take f.divisors r in point_taken (any_zero x) f side o (at_root x (drop f.divisors r)) x

-- no more rows come
unfoldable pub closing : Stage → Cell → Outcome (List (List Sign))
closing f (Clear side) = Went []
closing f (Held side o) = until_end f (way_between (left_end side o) (Is (first_sign o))) o

-- all that leaves when these rows come, and then no more
unfoldable pub flow : Stage → Cell → List (List Sign) → Outcome (List (List Sign))
flow f c [] = closing f c
flow f c (r ∷ m) = upon (stepped f c r) (λ s. upon (flow f s.cell m) (λ out. Went (s.leaving ++ out)))
