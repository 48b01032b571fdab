-- The table of signs of a list of polynomials in their first variable, given to what goes on with it: one answer for all values of the other variables. Assumes nothing.
use Rattle.std.specs.Prelude.{Bool, true, false, ◌&&◌, List, [], ◌∷◌, ◌++◌, map, ℕ, zero, suc, ◌+◌, ltb, length, get_or}
use Rattle.field.specs.declared.sign.Sign.{Sign}
use Rattle.field.specs.declared.sign.Sign.TheVariants.{Zero}
use Rattle.poly.specs.Poly.{Poly, End}
use Rattle.poly.specs.Leading.{leading, derivative, degree}
use Rattle.poly.specs.Modest.{modest, Checked, TooBig, Fine}
use Rattle.poly.specs.Division.{remainder}
use Rattle.sign_table.specs.Tree.{Tree, GivenUp}
use Rattle.sign_table.specs.Facts.{Fact}
use Rattle.sign_table.specs.Leadings.{Left, Plain, Real, leadings, reals, filled_all}
use Rattle.sign_table.specs.Deduce.{deduced, all_known, inserted}

-- what goes on with a table's rows, and the facts found on the way
abbrev pub Continuation : Type 0
Continuation = List (List Sign) → List Fact → Tree

abbrev pub poly_of : Left → Poly
poly_of (Plain s) = End
poly_of (Real p s) = p

abbrev pub leading_sign : Left → Sign
leading_sign (Plain s) = s
leading_sign (Real p s) = s

abbrev pub polys : List Left → List Poly
polys ls = map poly_of ls

-- the place of the highest degree, of the first one if there are several; i: the place of the next, b and d: the best place so far and its degree
unfoldable pub highest : ℕ → ℕ → ℕ → List Left → ℕ
highest i b d [] = b
highest i b d (l ∷ ls) =
    elim (ltb d (degree (poly_of l))) [ true ↦ highest (i + 1) i (degree (poly_of l)) ls | false ↦ highest (i + 1) b d ls ]

unfoldable pub without : ℕ → List Left → List Left
without i [] = []
without zero (l ∷ ls) = ls
without (suc i) (l ∷ ls) = l ∷ without i ls

-- of p by each
abbrev pub remainders : ℕ → Poly → List Left → List Checked
remainders n p ls = map (λ l. remainder n (leading_sign l) (poly_of l) p) ls

unfoldable pub all_fine : List Checked → Bool
all_fine [] = true
all_fine (TooBig ∷ cs) = false
all_fine (Fine p ∷ cs) = all_fine cs

unfoldable pub fine_ones : List Checked → List Poly
fine_ones [] = []
fine_ones (TooBig ∷ cs) = fine_ones cs
fine_ones (Fine p ∷ cs) = p ∷ fine_ones cs

-- The table of l, put at place i, and ls, none of higher degree: by `go` that of l's derivative, ls, and the remainders of l by all of these, which are of lower degree.
abbrev pub real_of : (List Poly → List Fact → Continuation → Tree) → ℕ → ℕ → Left → List Left → List Fact → Continuation → Tree
real_of go n i l ls fs k =
    let d = derivative n (poly_of l) in
    let qs = Real d (leading_sign l) ∷ ls in
    let rs = remainders n (poly_of l) qs in
    elim (modest (suc n) d && all_fine rs) [
      | true ↦
          go (polys qs ++ fine_ones rs) (record { poly = leading n d; sign = leading_sign l } ∷ fs)
          (λ m gs. let ws = deduced (length qs) m in elim (all_known ws) [ true ↦ k (inserted i ws) gs | false ↦ GivenUp ])
      | false ↦ GivenUp
    ]

abbrev pub none_left : Left
none_left = Plain Zero

-- with none, one row for the whole line, of no signs
abbrev pub real_table : (List Poly → List Fact → Continuation → Tree) → ℕ → List Left → List Fact → Continuation → Tree
real_table go n [] fs k = k ([] ∷ []) fs
real_table go n (l ∷ ls) fs k =
    let i = highest 1 0 (degree (poly_of l)) ls in
    real_of go n i (get_or (l ∷ ls) i none_left) (without i (l ∷ ls)) fs k

-- n: the variables of the coefficients; at most `depth` tables, each within the one before
unfoldable pub table : (depth : ℕ) → ℕ → List Poly → List Fact → Continuation → Tree
table zero n ps fs k = GivenUp
table (suc depth) n ps fs k =
    leadings 63 n ps [] fs (λ ls gs. real_table (table depth n) n (reals ls) gs (λ m hs. k (filled_all ls m) hs))
