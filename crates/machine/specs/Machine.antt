-- A machine that makes the tree of a table step by step: it looks at one leading coefficient after another, and keeps the questions whose branches it still has to explore.
-- Branches are explored from above to below. Assumes nothing.
use Rattle.std.specs.Prelude.{Bool, true, false, ◌&&◌, List, [], ◌∷◌, ◌++◌, ℕ, zero, suc, length, take, get_or}
use Rattle.field.specs.declared.sign.Sign.{Sign}
use Rattle.field.specs.declared.sign.Sign.TheVariants.{Neg, Zero, Pos}
use Rattle.poly.specs.Poly.{Poly, is_zero}
use Rattle.poly.specs.Leading.{leading, without_leading, derivative, degree}
use Rattle.poly.specs.Modest.{modest}
use Rattle.sign_table.specs.Tree.{Tree, GivenUp, Ask}
use Rattle.sign_table.specs.Facts.{Fact, Known, Unknown, Is, known}
use Rattle.sign_table.specs.Leadings.{Left, Plain, Real, left_of, turned_round, leadings, reals, filled_all}
use Rattle.sign_table.specs.Deduce.{deduced, all_known, inserted}
use Rattle.sign_table.specs.Table.{poly_of, leading_sign, polys, highest, without, remainders, all_fine, fine_ones, none_left, real_table, table}

-- A table that waits for the rows of the one below it: what is left of all its polynomials, the place among the real ones of the polynomial that was
-- divided, and how many divided it, its derivative included.
pub data Frame : Type 0 where
  Waiting : (lefts : List Left) (place divisors : ℕ) → Frame

-- The polynomials of a table being settled: how many tables may come below this one, how many polynomials may still be looked at, those ahead, what is
-- left of the others with the last first, the facts, and the tables that wait, the innermost first.
pub data Phase : Type 0 where
  Settling : (depth looks : ℕ) (ahead : List Poly) (lefts : List Left) (facts : List Fact) (frames : List Frame) → Phase

-- which branch of a question is being explored, with the trees of the branches above it
pub data Branch : Type 0 where
  Above : Branch
  At : (above : Tree) → Branch
  Below : (at above : Tree) → Branch

-- a question about the leading coefficient of this polynomial; the phase is the one to go on with, without the polynomial
pub data Question : Type 0 where
  Open : Poly → Branch → Phase → Question

-- the questions that enclose what is done now, the innermost first
pub data State : Type 0 where
  Looking : Phase → List Question → State
  Returning : Tree → List Question → State

-- what a run does with the rows of the outermost table, and what it makes of a question and its three branches
pub record Run : Type 0 where
  pub leaf : List (List Sign) → Tree
  pub join : Poly → Tree → Tree → Tree → Tree

-- the run that makes the tree
abbrev pub building : (List (List Sign) → Tree) → Run
building leaf = record { leaf = leaf; join = Ask }

-- the run that makes no tree: all that it finishes is given up
abbrev pub counting : Run
counting = record { leaf = λ rows. GivenUp; join = λ p a b c. GivenUp }

-- what comes of the rows of the innermost table: the waiting tables are deduced from it, one from another
unfoldable pub resume : (leaf : List (List Sign) → Tree) → List Frame → List (List Sign) → Tree
resume leaf [] rows = leaf rows
resume leaf (Waiting ls i l ∷ frames) rows =
    let ws = deduced l rows in
    elim (all_known ws) [ true ↦ resume leaf frames (filled_all ls (inserted i ws)) | false ↦ GivenUp ]

-- p's leading coefficient is found to have this sign
abbrev pub with_sign : Poly → Sign → Phase → Phase
with_sign p Neg (Settling depth looks ps ls fs frames) = Settling depth looks ps (left_of p Neg ∷ ls) fs frames
with_sign p Zero (Settling depth looks ps ls fs frames) = Settling depth looks (without_leading p ∷ ps) ls fs frames
with_sign p Pos (Settling depth looks ps ls fs frames) = Settling depth looks ps (left_of p Pos ∷ ls) fs frames

abbrev pub with_fact : Fact → Phase → Phase
with_fact f (Settling depth looks ps ls fs frames) = Settling depth looks ps ls (f ∷ fs) frames

-- p's leading coefficient is assumed to have this sign, which becomes a fact
abbrev pub assumed : ℕ → Poly → Sign → Phase → Phase
assumed n p s phase = with_sign p s (with_fact (record { poly = leading n p; sign = s }) phase)

-- p is zero everywhere
abbrev pub with_zero : Phase → Phase
with_zero (Settling depth looks ps ls fs frames) = Settling depth looks ps (Plain Zero ∷ ls) fs frames

-- a table of ps is begun; more than 64 can't be settled, so the first 64 are as good as all
abbrev pub begun : (depth : ℕ) → List Poly → List Fact → List Frame → List Question → State
begun zero ps fs frames qs = Returning GivenUp qs
begun (suc depth) ps fs frames qs = Looking (Settling depth 63 (take 64 ps) [] fs frames) qs

-- what l is divided by: its derivative, and ls, none of higher degree
abbrev pub divisors : ℕ → Left → List Left → List Left
divisors n l ls = Real (derivative n (poly_of l)) (leading_sign l) ∷ ls

-- the polynomials below are modest
abbrev pub divisible : ℕ → Left → List Left → Bool
divisible n l ls = modest (suc n) (derivative n (poly_of l)) && all_fine (remainders n (poly_of l) (divisors n l ls))

-- the polynomials of the table below: the divisors, and the remainders of l by them
abbrev pub polys_below : ℕ → Left → List Left → List Poly
polys_below n l ls = polys (divisors n l ls) ++ fine_ones (remainders n (poly_of l) (divisors n l ls))

-- the derivative's leading coefficient has the sign of l's
abbrev pub fact_below : ℕ → Left → Fact
fact_below n l = record { poly = leading n (derivative n (poly_of l)); sign = leading_sign l }

-- the table below one whose real polynomials are l, at place i, and ls; all: what is left of all its polynomials
abbrev pub divided : ℕ → ℕ → ℕ → Left → List Left → List Left → List Fact → List Frame → List Question → State
divided n depth i l ls all fs frames qs =
    elim (divisible n l ls) [
      | true ↦ begun depth (polys_below n l ls) (fact_below n l ∷ fs) (Waiting all i (length (divisors n l ls)) ∷ frames) qs
      | false ↦ Returning GivenUp qs
    ]

-- the place of the highest degree
abbrev pub highest_place : Left → List Left → ℕ
highest_place l ls = highest 1 0 (degree (poly_of l)) ls

-- all polynomials are settled; the first list: the real ones among them
abbrev pub settled : (leaf : List (List Sign) → Tree) → ℕ → ℕ → List Left → List Left → List Fact → List Frame → List Question → State
settled leaf n depth [] all fs frames qs = Returning (resume leaf frames (filled_all all ([] ∷ []))) qs
settled leaf n depth (l ∷ ls) all fs frames qs =
    let i = highest_place l ls in
    divided n depth i (get_or (l ∷ ls) i none_left) (without i (l ∷ ls)) all fs frames qs

-- p is looked at: whether it is zero, and what is known of the sign of its leading coefficient
abbrev pub looked_at : ℕ → Bool → Known → Poly → Phase → List Question → State
looked_at n true k p phase qs = Looking (with_zero phase) qs
looked_at n false (Is s) p phase qs = Looking (with_sign p s phase) qs
looked_at n false Unknown p phase qs = Looking (assumed n p Pos phase) (Open p Above phase ∷ qs)

-- n: the variables of the coefficients
abbrev pub step : Run → ℕ → State → State
step run n (Looking (Settling depth zero [] ls fs frames) qs) =
    let all = turned_round ls [] in settled run.leaf n depth (reals all) all fs frames qs
step run n (Looking (Settling depth zero (p ∷ ps) ls fs frames) qs) = Returning GivenUp qs
step run n (Looking (Settling depth (suc looks) [] ls fs frames) qs) =
    let all = turned_round ls [] in settled run.leaf n depth (reals all) all fs frames qs
step run n (Looking (Settling depth (suc looks) (p ∷ ps) ls fs frames) qs) =
    looked_at n (is_zero p) (known n (leading n p) fs) p (Settling depth looks ps ls fs frames) qs
step run n (Returning t []) = Returning t []
step run n (Returning t (Open p Above phase ∷ qs)) = Looking (assumed n p Zero phase) (Open p (At t) phase ∷ qs)
step run n (Returning t (Open p (At c) phase ∷ qs)) = Looking (assumed n p Neg phase) (Open p (Below t c) phase ∷ qs)
step run n (Returning t (Open p (Below b c) phase ∷ qs)) = Returning (run.join (leading n p) t b c) qs

unfoldable pub steps : ℕ → Run → ℕ → State → State
steps zero run n s = s
steps (suc k) run n s = steps k run n (step run n s)

-- the table of ps
abbrev pub start : (depth : ℕ) → List Poly → State
start depth ps = begun depth ps [] [] []

-- the tree of what a phase comes to
abbrev pub phase_tree : (leaf : List (List Sign) → Tree) → ℕ → Phase → Tree
phase_tree leaf n (Settling depth looks ps ls fs frames) =
    leadings looks n ps ls fs (λ all gs. real_table (table depth n) n (reals all) gs (λ rows hs. resume leaf frames (filled_all all rows)))

-- the tree of the outermost question, from that of the branch which is being explored
unfoldable pub enclosed : (leaf : List (List Sign) → Tree) → ℕ → List Question → Tree → Tree
enclosed leaf n [] t = t
enclosed leaf n (Open p Above phase ∷ qs) t =
    enclosed leaf n qs (Ask (leading n p) (phase_tree leaf n (assumed n p Neg phase)) (phase_tree leaf n (assumed n p Zero phase)) t)
enclosed leaf n (Open p (At c) phase ∷ qs) t = enclosed leaf n qs (Ask (leading n p) (phase_tree leaf n (assumed n p Neg phase)) t c)
enclosed leaf n (Open p (Below b c) phase ∷ qs) t = enclosed leaf n qs (Ask (leading n p) t b c)

-- the tree that a state comes to
abbrev pub denote : (leaf : List (List Sign) → Tree) → ℕ → State → Tree
denote leaf n (Looking phase qs) = enclosed leaf n qs (phase_tree leaf n phase)
denote leaf n (Returning t qs) = enclosed leaf n qs t
