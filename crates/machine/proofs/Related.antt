-- A relation that questions and GivenUp keep holds between two tables of the same polynomials, if it holds between what goes on with their rows. Assumes nothing.
use mathlib.Core.Bool.{Bool, true, false, ◌&&◌}
use mathlib.Core.List.{List, [], ◌∷◌, ◌++◌}
use Prim.Native.Nat.{ℕ, zero, suc}
use lib.ListN.{length, get_or}
use Rattle.field.specs.declared.sign.Sign.{Sign}
use Rattle.field.specs.declared.sign.Sign.TheVariants.{Neg, Zero, Pos}
use Rattle.poly.specs.Poly.{Poly, is_zero}
use Rattle.poly.specs.Leading.{leading, without_leading, derivative, degree}
use Rattle.poly.specs.Modest.{modest}
use Rattle.sign_table.specs.Tree.{Tree, GivenUp}
use Rattle.sign_table.specs.Facts.{Fact, ask}
use Rattle.sign_table.specs.Leadings.{Left, Plain, Real, left_of, headed, turned_round, leadings, reals, filled_all}
use Rattle.sign_table.specs.Deduce.{deduced, all_known, inserted}
use Rattle.sign_table.specs.Table.{Continuation, poly_of, leading_sign, polys, highest, without, remainders, all_fine, fine_ones, none_left, real_of, real_table, table}
use Rattle.machine.specs.Machine.{Frame, Waiting, Phase, Settling, resume, phase_tree}

module _ (Related : Tree → Tree → Type 0) where
  pub related_test : (b : Bool) (t u v w : Tree) → Related t v → Related u w → Related (elim b [ true ↦ t | false ↦ u ]) (elim b [ true ↦ v | false ↦ w ])
  related_test true t u v w h k = h
  related_test false t u v w h k = k

-- questions about n variables keep the relation
abbrev pub AskKeeps : (Tree → Tree → Type 0) → ℕ → Type 0
AskKeeps Related n =
    (p : Poly) (fs : List Fact) (k o : Sign → List Fact → Tree) → ((s : Sign) (gs : List Fact) → Related (k s gs) (o s gs)) → Related (ask n p fs k) (ask n p fs o)

-- related, whatever the rows
abbrev pub RelatedRows : (Tree → Tree → Type 0) → Continuation → Continuation → Type 0
RelatedRows Related k o = (m : List (List Sign)) (gs : List Fact) → Related (k m gs) (o m gs)

module _ (Related : Tree → Tree → Type 0) (n : ℕ) (given-up : Related GivenUp GivenUp) (ask-keeps : AskKeeps Related n) where
  related_leadings : (k o : List Left → List Fact → Tree) → ((ls : List Left) (gs : List Fact) → Related (k ls gs) (o ls gs)) →
      (looks : ℕ) (ps : List Poly) (ls : List Left) (fs : List Fact) → Related (leadings looks n ps ls fs k) (leadings looks n ps ls fs o)
  unfolding leadings
  related_leadings k o h zero [] ls fs = h (turned_round ls []) fs
  related_leadings k o h zero (p ∷ ps) ls fs = given-up
  related_leadings k o h (suc looks) [] ls fs = h (turned_round ls []) fs
  related_leadings k o h (suc looks) (p ∷ ps) ls fs =
      related_test Related (is_zero p) _ _ _ _ (related_leadings k o h looks ps (Plain Zero ∷ ls) fs)
      (ask-keeps (leading n p) fs (λ s gs. headed p s ps ls (λ qs ms. leadings looks n qs ms gs k)) (λ s gs. headed p s ps ls (λ qs ms. leadings looks n qs ms gs o))
      (λ s gs. by_sign s gs (λ qs ms. related_leadings k o h looks qs ms gs)))
    where
      by_sign : (s : Sign) (gs : List Fact) → ((qs : List Poly) (ms : List Left) → Related (leadings looks n qs ms gs k) (leadings looks n qs ms gs o)) →
          Related (headed p s ps ls (λ qs ms. leadings looks n qs ms gs k)) (headed p s ps ls (λ qs ms. leadings looks n qs ms gs o))
      by_sign Neg gs rec = rec ps (left_of p Neg ∷ ls)
      by_sign Zero gs rec = rec (without_leading p ∷ ps) ls
      by_sign Pos gs rec = rec ps (left_of p Pos ∷ ls)

  module _ (go : List Poly → List Fact → Continuation → Tree)
      (go-related : (ps : List Poly) (fs : List Fact) (k o : Continuation) → RelatedRows Related k o → Related (go ps fs k) (go ps fs o))
      (k o : Continuation) (h : RelatedRows Related k o) where
    related_real_of : (i : ℕ) (l : Left) (ls : List Left) (fs : List Fact) → Related (real_of go n i l ls fs k) (real_of go n i l ls fs o)
    related_real_of i l ls fs =
        let d = derivative n (poly_of l) in
        let ds = Real d (leading_sign l) ∷ ls in
        let rs = remainders n (poly_of l) ds in
        related_test Related (modest (suc n) d && all_fine rs) _ _ _ _
        (go-related (polys ds ++ fine_ones rs) (record { poly = leading n d; sign = leading_sign l } ∷ fs) _ _
        (λ m gs. related_test Related (all_known (deduced (length ds) m)) _ _ _ _ (h (inserted i (deduced (length ds) m)) gs) given-up))
        given-up

    related_real_table : (ls : List Left) (fs : List Fact) → Related (real_table go n ls fs k) (real_table go n ls fs o)
    related_real_table [] fs = h ([] ∷ []) fs
    related_real_table (l ∷ ls) fs =
        let i = highest 1 0 (degree (poly_of l)) ls in related_real_of i (get_or (l ∷ ls) i none_left) (without i (l ∷ ls)) fs

  pub related_table : (depth : ℕ) (ps : List Poly) (fs : List Fact) (k o : Continuation) → RelatedRows Related k o → Related (table depth n ps fs k) (table depth n ps fs o)
  unfolding table
  related_table zero ps fs k o h = given-up
  related_table (suc depth) ps fs k o h =
      related_leadings _ _
      (λ ls gs. related_real_table (table depth n) (related_table depth) (λ m hs. k (filled_all ls m) hs) (λ m hs. o (filled_all ls m) hs) (λ m hs. h (filled_all ls m) hs) (reals ls) gs)
      63 ps [] fs

  module _ (leaf other : List (List Sign) → Tree) (at-leaves : (rows : List (List Sign)) → Related (leaf rows) (other rows)) where
    related_resume : (frames : List Frame) (rows : List (List Sign)) → Related (resume leaf frames rows) (resume other frames rows)
    unfolding resume
    related_resume [] rows = at-leaves rows
    related_resume (Waiting ls i l ∷ frames) rows =
        related_test Related (all_known (deduced l rows)) _ _ _ _ (related_resume frames (filled_all ls (inserted i (deduced l rows)))) given-up

    pub related_phase : (phase : Phase) → Related (phase_tree leaf n phase) (phase_tree other n phase)
    related_phase (Settling depth looks ps ls fs frames) =
        related_leadings _ _
        (λ ms gs. related_real_table (table depth n) (related_table depth) (λ m hs. resume leaf frames (filled_all ms m)) (λ m hs. resume other frames (filled_all ms m))
        (λ m hs. related_resume frames (filled_all ms m)) (reals ms) gs)
        looks ps ls fs
