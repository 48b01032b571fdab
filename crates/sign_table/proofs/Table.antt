-- Where a table's tree says yes or no, it went on with a right table and true facts. Assumes nothing.
use mathlib.Core.Path.{◌≡◌, refl, sym, ◌∙◌, ap, ap₂, subst}
use mathlib.Core.Bool.{Bool, true, false, ◌&&◌, ◌||◌}
use mathlib.Core.Logic.{inl, inr}
use mathlib.Core.List.{List, [], ◌∷◌, ◌++◌}
use Prim.Native.Nat.{ℕ, zero, suc, ◌<◌}
use native.Mathlib.Omega.{arith}
use lib.Dec.{T}
use lib.ListN.{length, get_or}
use Rattle.field.specs.declared.sign.Sign.{Sign}
use Rattle.field.specs.Field.{RealClosedField}
use Rattle.field.proofs.Order.{zero_sign}
use Rattle.roots.specs.Interval.{Open}
use Rattle.poly.specs.Poly.{Poly}
use Rattle.poly.specs.Leading.{leading, derivative, degree}
use Rattle.poly.specs.Modest.{modest}
use Rattle.poly.specs.Value.{value}
use Rattle.poly.proofs.Depth.{Depth-leading}
use Rattle.poly.proofs.Values.{both}
use Rattle.sign_table.specs.Tree.{Tree, GivenUp}
use Rattle.sign_table.specs.Facts.{Fact}
use Rattle.sign_table.specs.Leadings.{Left, Plain, Real, turned_round, reals, filled, filled_all}
use Rattle.sign_table.specs.Deduce.{Row, is_zero_sign, any_zero, known_zero, all_known, insert_at, the_sign, inserted, deduced}
use Rattle.sign_table.specs.Table.{Continuation, poly_of, polys, highest, without, remainders, all_fine, fine_ones, real_of, none_left, real_table, table}
use Rattle.sign_table.specs.Meaning.{Says, YesOrNo, DepthAll, TrueFacts}
use Rattle.sign_table.specs.Right.{signs_at, Along, HasSigns, SomeRoot, RootWithSigns, Right}
use Rattle.sign_table.specs.Theorems.{TableRight}
use Rattle.sign_table.proofs.Along.{on_test, along_map}
use Rattle.sign_table.proofs.Lefts.{Every, every_map, every-without, every_at, highest_within, DepthLeft, next_depths}
use Rattle.sign_table.proofs.Headed.{HasLeading, Headed, HeadedReal, headed_depth, real_headed, not_zero_within, derivative-headed}
use Rattle.sign_table.proofs.Leadings.{not_given_up, AreLeft, leadings-settled, reals-headed, filled_signs, left_root}
use Rattle.sign_table.proofs.Between.{RowSigns}
use Rattle.sign_table.proofs.Deduce.{ZeroSigns, zero_sign-is, deduced_right}

or_swap : (a b c d : Bool) → T (a || (b || c)) → (T (a || c) → T d) → T (b || d)
or_swap a true c d t h = tt
or_swap a false c d t h = h t

-- a zero stays when it is put among others
any_inserted : (i : ℕ) (s : Sign) (ss : List Sign) → T (is_zero_sign s || any_zero ss) → T (any_zero (insert_at i s ss))
unfolding any_zero insert_at
any_inserted zero s ss t = t
any_inserted (suc i) s [] t = t
any_inserted (suc i) s (u ∷ ss) t = or_swap (is_zero_sign s) (is_zero_sign u) (any_zero ss) (any_zero (insert_at i s ss)) t (any_inserted i s ss)

module _ {R : Type 0} (f : RealClosedField R) (e : List R) where
  open f use {zero as 𝟘, sign}

  abbrev n : ℕ
  n = length e

  -- the sign of the one at place i, put at place i among those of the others
  inserted_signs : (i : ℕ) (ls : List Left) → i < length ls → (x : R) →
      signs_at f (polys ls) (x ∷ e) ≡ insert_at i (sign (value f (poly_of (get_or ls i none_left)) (x ∷ e))) (signs_at f (polys (without i ls)) (x ∷ e))
  unfolding without insert_at
  inserted_signs i [] k x = absurd (omega arith)
  inserted_signs zero (l ∷ ls) k x = refl
  inserted_signs (suc i) (l ∷ ls) k x = ap {B = List Sign} (λ ss. sign (value f (poly_of l) (x ∷ e)) ∷ ss) (inserted_signs i ls (omega arith) x)

  -- a zero among the signs of headed polynomials is a root
  zero_root : (ls : List Left) → Every (HeadedReal f e) ls → (c : R) → T (any_zero (signs_at f (polys ls) (c ∷ e))) → SomeRoot f e (polys ls) c
  unfolding any_zero
  zero_root [] h c t = absurd t
  zero_root (Plain s ∷ ls) h c t = absurd h.0
  zero_root (Real q s ∷ ls) h c t = go (is_zero_sign (sign (value f q (c ∷ e)))) refl t (zero_root ls h.1 c)
    where
      go : (b : Bool) → is_zero_sign (sign (value f q (c ∷ e))) ≡ b → T (b || any_zero (signs_at f (polys ls) (c ∷ e))) →
          (T (any_zero (signs_at f (polys ls) (c ∷ e))) → SomeRoot f e (polys ls) c) → SomeRoot f e (q ∷ polys ls) c
      go true b-is u rec =
          let (x, _, apart) = not_zero_within f e q s h.0.0 Open Open tt in
          (q, inl refl, f.sign_zero (value f q (c ∷ e)) (zero_sign-is (sign (value f q (c ∷ e))) (subst T (sym b-is) tt)), (x, λ z. apart (zero_sign f (value f q (x ∷ e)) z)))
      go false b-is u rec = let (r, i, root, other) = rec u in (r, inr i, root, other)

  module _ (what : Tree) (yes_or_no : YesOrNo what) where
    -- it went on with a right table of ps
    abbrev WentOn : List Poly → Continuation → Type 0
    WentOn ps k = (m : List (List Sign)) × (gs : List Fact) × Right f e ps m × TrueFacts f e gs × Says f what (k m gs) e

    abbrev GoesRight : (List Poly → List Fact → Continuation → Tree) → Type 0
    GoesRight go = (ps : List Poly) (fs : List Fact) (k : Continuation) → DepthAll (suc n) ps → TrueFacts f e fs → Says f what (go ps fs k) e → WentOn ps k

    -- rows of l and ls
    abbrev WentOnRows : ℕ → Left → List Left → Continuation → Type 0
    WentOnRows i l ls k =
        (ws : List Row) × (gs : List Fact) × Along f (RowSigns f e (poly_of l) (polys ls)) (ZeroSigns f e (poly_of l) (polys ls)) Open ws
        × TrueFacts f e gs × Says f what (k (inserted i ws) gs) e

    real_of_right : (go : List Poly → List Fact → Continuation → Tree) → GoesRight go → (i : ℕ) (l : Left) (ls : List Left) →
        HeadedReal f e l → Every (HeadedReal f e) ls → (fs : List Fact) → TrueFacts f e fs → (k : Continuation) →
        Says f what (real_of go n i l ls fs k) e → WentOnRows i l ls k
    unfolding Says
    real_of_right go go_right i (Plain s) ls l-real ls-real fs t k says = absurd l-real
    real_of_right go go_right i (Real p s) ls l-real ls-real fs t k says =
        on_test (modest (suc n) d && all_fine (remainders n p qs))
        (λ b. Says f what (elim b [ true ↦ go (polys qs ++ fine_ones (remainders n p qs)) (record { poly = leading n d; sign = s } ∷ fs) inner | false ↦ GivenUp ]) e → WentOnRows i (Real p s) ls k)
        (λ fine says'.
        let fine' : T (all_fine (remainders n p qs)) = (both (modest (suc n) d) (all_fine (remainders n p qs)) fine).1 in
        let (m, gs, right, t-gs, says'') = go_right (polys qs ++ fine_ones (remainders n p qs)) (record { poly = leading n d; sign = s } ∷ fs) inner
        (next_depths n p l-real.0.depth qs (every_map (Headed f e) (DepthLeft n) (headed_depth f e) qs (d_headed, ls_headed)))
        (Depth-leading n d d_headed.depth, d_headed.is, t) says' in
        known m gs t-gs (deduced_right f e p s l-real.0 l-real.1 ls ls_headed fine' m right) says'')
        (λ _ given-up. absurd (not_given_up what yes_or_no given-up)) says
      where
        d : Poly
        d = derivative n p

        qs : List Left
        qs = Real d s ∷ ls

        d_headed : HasLeading f e d s
        d_headed = derivative-headed f e p s l-real.0 l-real.1

        ls_headed : Every (Headed f e) ls
        ls_headed = every_map (HeadedReal f e) (Headed f e) (real_headed f e) ls ls-real

        inner : Continuation
        inner = λ m gs. let ws = deduced (length qs) m in elim (all_known ws) [ true ↦ k (inserted i ws) gs | false ↦ GivenUp ]

        known : (m : List (List Sign)) (gs : List Fact) → TrueFacts f e gs →
            Along f (RowSigns f e p (polys ls)) (ZeroSigns f e p (polys ls)) Open (deduced (length qs) m) →
            Says f what (inner m gs) e → WentOnRows i (Real p s) ls k
        known m gs t-gs rows says' =
            on_test (all_known (deduced (length qs) m)) (λ b. Says f what (elim b [ true ↦ k (inserted i (deduced (length qs) m)) gs | false ↦ GivenUp ]) e → WentOnRows i (Real p s) ls k)
            (λ _ says''. (deduced (length qs) m, gs, rows, t-gs, says'')) (λ _ given-up. absurd (not_given_up what yes_or_no given-up)) says'

    real_table_right : (go : List Poly → List Fact → Continuation → Tree) → GoesRight go → (ls : List Left) → Every (HeadedReal f e) ls →
        (fs : List Fact) → TrueFacts f e fs → (k : Continuation) → Says f what (real_table go n ls fs k) e → WentOn (polys ls) k
    unfolding Along
    real_table_right go go_right [] h fs t k says = ([] ∷ [], fs, (λ x i. refl), t, says)
    real_table_right go go_right (l ∷ ls) h fs t k says =
        let i = highest 1 0 (degree (poly_of l)) ls in
        let i-bound : i < length (l ∷ ls) = highest_within l ls in
        let this = get_or (l ∷ ls) i none_left in
        let others = without i (l ∷ ls) in
        let (ws, gs, rows, t-gs, says') = real_of_right go go_right i this others (every_at (HeadedReal f e) i (l ∷ ls) i-bound h)
        (every-without (HeadedReal f e) i (l ∷ ls) h) fs t k says in
        let signs : (x : R) (row : Row) → RowSigns f e (poly_of this) (polys others) x row → HasSigns f e (polys (l ∷ ls)) x (insert_at i (the_sign row.this) row.others) =
        λ x row r. inserted_signs i (l ∷ ls) i-bound x ∙ ap₂ (insert_at i) (sym (ap the_sign r.0)) r.1 in (
          inserted i ws,
          gs,
          along_map f (RowSigns f e (poly_of this) (polys others)) (ZeroSigns f e (poly_of this) (polys others)) (HasSigns f e (polys (l ∷ ls)))
              (RootWithSigns f e (polys (l ∷ ls))) (λ row. insert_at i (the_sign row.this) row.others) signs
              (λ c row r. (
                signs c row r.0,
                zero_root (l ∷ ls) h c (subst (λ ss. T (any_zero ss)) (sym (signs c row r.0)) (any_inserted i (the_sign row.this) row.others
                    (subst (λ u. T (known_zero u || any_zero row.others) → T (is_zero_sign (the_sign u) || any_zero row.others)) (sym r.0.0) (λ z. z) r.1))),
              )) Open ws rows,
          t-gs,
          says',
        )

    table_goes : (depth : ℕ) → GoesRight (table depth n)
    unfolding table Says turned_round
    table_goes zero ps fs k d t says = absurd (not_given_up what yes_or_no says)
    table_goes (suc depth) ps fs k d t says =
        let (ls, gs, left, t-gs, says') = leadings-settled f e what yes_or_no (λ ls gs. real_table (table depth n) n (reals ls) gs (λ m hs. k (filled_all ls m) hs)) 63 ps [] fs d t says in
        filled_up ls left (real_table_right (table depth n) (table_goes depth) (reals ls) (reals-headed f e ps ls left) gs t-gs (λ m hs. k (filled_all ls m) hs) says')
      where
        filled_up : (ls : List Left) → AreLeft f e ps ls → WentOn (polys (reals ls)) (λ m hs. k (filled_all ls m) hs) → WentOn ps k
        filled_up ls left (m, hs, right, t-hs, says') = (
          filled_all ls m,
          hs,
          along_map f (HasSigns f e (polys (reals ls))) (RootWithSigns f e (polys (reals ls))) (HasSigns f e ps)
              (RootWithSigns f e ps) (filled ls) (λ x row h. filled_signs f e ps ls left x ∙ ap (filled ls) h)
              (λ c row h. (filled_signs f e ps ls left c ∙ ap (filled ls) h.0, left_root f e ps ls left c h.1)) Open m right,
          t-hs,
          says',
        )

pub table_right : {R : Type 0} (f : RealClosedField R) → TableRight f
table_right f e depth ps fs k what d t yes_or_no says = table_goes f e what yes_or_no depth ps fs k d t says
