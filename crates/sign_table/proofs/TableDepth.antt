-- A table asks only about polynomials in the other variables. Assumes nothing.
use mathlib.Core.Bool.{Bool, true, false, cond, ◌&&◌}
use mathlib.Core.List.{List, [], ◌∷◌, ◌++◌}
use Prim.Native.Nat.{ℕ, zero, suc}
use lib.Dec.{eqb}
use lib.ListN.{length, get_or}
use Rattle.field.specs.declared.sign.Sign.{Sign}
use Rattle.field.specs.declared.sign.Sign.TheVariants.{Neg, Zero, Pos}
use Rattle.poly.specs.Poly.{Poly, is_zero}
use Rattle.poly.specs.Leading.{leading, without_leading, derivative, degree}
use Rattle.poly.specs.Modest.{modest}
use Rattle.poly.specs.Value.{Depth}
use Rattle.poly.proofs.Depth.{Depth-leading, Depth-without_leading, Depth-derivative}
use Rattle.sign_table.specs.Tree.{Tree, GivenUp}
use Rattle.sign_table.specs.Facts.{Fact, Known, Unknown, Is, known, ask_known, ask}
use Rattle.sign_table.specs.Leadings.{Left, Plain, Real, left_of, headed, turned_round, leadings, reals, filled_all}
use Rattle.sign_table.specs.Deduce.{all_known, inserted, deduced}
use Rattle.sign_table.specs.Table.{Continuation, poly_of, leading_sign, polys, highest, without, remainders, all_fine, fine_ones, real_of, none_left, real_table, table}
use Rattle.sign_table.specs.Meaning.{DepthTree, DepthAll}
use Rattle.sign_table.specs.Theorems.{TableDepth}
use Rattle.sign_table.proofs.Along.{on_test}
use Rattle.sign_table.proofs.Lefts.{Every, every_turned, every_real, every-without, every_at, highest_within, DepthLeft, next_depths}

ask_depth : (n : ℕ) (p : Poly) (fs : List Fact) (k : Sign → List Fact → Tree) → Depth n p → ((s : Sign) (gs : List Fact) → DepthTree n (k s gs)) → DepthTree n (ask n p fs k)
unfolding DepthTree
ask_depth n p fs k d h = go (known n p fs)
  where
    go : (b : Known) → DepthTree n (ask_known b p fs k)
    go (Is s) = h s fs
    go Unknown = (d, h Neg (record { poly = p; sign = Neg } ∷ fs), h Zero (record { poly = p; sign = Zero } ∷ fs), h Pos (record { poly = p; sign = Pos } ∷ fs))

left_of_depth : (n : ℕ) (p : Poly) (s : Sign) → Depth (suc n) p → DepthLeft n (left_of p s)
unfolding Depth
left_of_depth n p s d = go (eqb (degree p) 0)
  where
    go : (b : Bool) → DepthLeft n (cond b (Plain s) (Real p s))
    go true = tt
    go false = d

leadings_depth : (n : ℕ) (k : List Left → List Fact → Tree) → ((ls : List Left) (gs : List Fact) → Every (DepthLeft n) ls → DepthTree n (k ls gs)) →
    (looks : ℕ) (ps : List Poly) (ls : List Left) (fs : List Fact) → DepthAll (suc n) ps → Every (DepthLeft n) ls → DepthTree n (leadings looks n ps ls fs k)
unfolding leadings DepthTree Depth
leadings_depth n k h zero [] ls fs d d-ls = h (turned_round ls []) fs (every_turned (DepthLeft n) ls [] d-ls tt)
leadings_depth n k h zero (p ∷ ps) ls fs d d-ls = tt
leadings_depth n k h (suc looks) [] ls fs d d-ls = h (turned_round ls []) fs (every_turned (DepthLeft n) ls [] d-ls tt)
leadings_depth n k h (suc looks) (p ∷ ps) ls fs d d-ls =
    on_test (is_zero p)
    (λ b. DepthTree n (elim b [
      | true ↦ leadings looks n ps (Plain Zero ∷ ls) fs k
      | false ↦ ask n (leading n p) fs (λ s gs. headed p s ps ls (λ qs ms. leadings looks n qs ms gs k))
    ]))
    (λ _. leadings_depth n k h looks ps (Plain Zero ∷ ls) fs d.1 (tt, d-ls))
    (λ _. ask_depth n (leading n p) fs (λ s gs. headed p s ps ls (λ qs ms. leadings looks n qs ms gs k)) (Depth-leading n p d.0)
    (λ s gs. by_sign s gs (λ qs ms. leadings_depth n k h looks qs ms gs)))
  where
    by_sign : (s : Sign) (gs : List Fact) → ((qs : List Poly) (ms : List Left) → DepthAll (suc n) qs → Every (DepthLeft n) ms → DepthTree n (leadings looks n qs ms gs k)) →
        DepthTree n (headed p s ps ls (λ qs ms. leadings looks n qs ms gs k))
    by_sign Neg gs rec = rec ps (left_of p Neg ∷ ls) d.1 (left_of_depth n p Neg d.0, d-ls)
    by_sign Zero gs rec = rec (without_leading p ∷ ps) ls (Depth-without_leading n p d.0, d.1) d-ls
    by_sign Pos gs rec = rec ps (left_of p Pos ∷ ls) d.1 (left_of_depth n p Pos d.0, d-ls)

module _ (n : ℕ) (go : List Poly → List Fact → Continuation → Tree)
    (go-depth : (ps : List Poly) (fs : List Fact) (k : Continuation) → DepthAll (suc n) ps → ((m : List (List Sign)) (gs : List Fact) → DepthTree n (k m gs)) → DepthTree n (go ps fs k))
    (k : Continuation) (h : (m : List (List Sign)) (gs : List Fact) → DepthTree n (k m gs)) where
  real_of_depth : (i : ℕ) (l : Left) (ls : List Left) (fs : List Fact) → DepthLeft n l → Every (DepthLeft n) ls → DepthTree n (real_of go n i l ls fs k)
  unfolding DepthTree
  real_of_depth i l ls fs d d-ls =
      on_test (modest (suc n) (derivative n (poly_of l)) && all_fine (remainders n (poly_of l) qs))
      (λ b. DepthTree n (elim b [
        | true ↦ go (polys qs ++ fine_ones (remainders n (poly_of l) qs)) (record { poly = leading n (derivative n (poly_of l)); sign = leading_sign l } ∷ fs) inner
        | false ↦ GivenUp
      ]))
      (λ _. go-depth (polys qs ++ fine_ones (remainders n (poly_of l) qs)) (record { poly = leading n (derivative n (poly_of l)); sign = leading_sign l } ∷ fs) inner
      (next_depths n (poly_of l) d qs (Depth-derivative n (poly_of l) d, d-ls))
      (λ m gs. on_test (all_known (deduced (length qs) m)) (λ b. DepthTree n (elim b [ true ↦ k (inserted i (deduced (length qs) m)) gs | false ↦ GivenUp ]))
      (λ _. h (inserted i (deduced (length qs) m)) gs) (λ _. tt)))
      (λ _. tt)
    where
      qs : List Left
      qs = Real (derivative n (poly_of l)) (leading_sign l) ∷ ls

      inner : Continuation
      inner = λ m gs. let ws = deduced (length qs) m in elim (all_known ws) [ true ↦ k (inserted i ws) gs | false ↦ GivenUp ]

  real_table_depth : (ls : List Left) (fs : List Fact) → Every (DepthLeft n) ls → DepthTree n (real_table go n ls fs k)
  real_table_depth [] fs d = h ([] ∷ []) fs
  real_table_depth (l ∷ ls) fs d =
      let i = highest 1 0 (degree (poly_of l)) ls in
      real_of_depth i (get_or (l ∷ ls) i none_left) (without i (l ∷ ls)) fs (every_at (DepthLeft n) i (l ∷ ls) (highest_within l ls) d) (every-without (DepthLeft n) i (l ∷ ls) d)

pub table_depth : TableDepth
unfolding table DepthTree
table_depth zero n ps fs k d h = tt
table_depth (suc depth) n ps fs k d h =
    leadings_depth n (λ ls gs. real_table (table depth n) n (reals ls) gs (λ m hs. k (filled_all ls m) hs))
    (λ ls gs d-ls. real_table_depth n (table depth n) (table_depth depth n) (λ m hs. k (filled_all ls m) hs) (λ m hs. h (filled_all ls m) hs) (reals ls) gs (every_real (DepthLeft n) ls d-ls))
    63 ps [] fs d tt
