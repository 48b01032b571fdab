-- Deduction: from a right table of p's derivative, others, and the remainders of p by these, to one of p and the others. Assumes nothing.
use mathlib.Core.Path.{◌≡◌, refl, sym, ◌∙◌, ap, ap₂, subst, subst₂}
use mathlib.Core.Bool.{Bool, true, false, cond, not, ◌||◌}
use mathlib.Core.List.{List, [], ◌∷◌, ◌++◌, map}
use Prim.Native.Nat.{ℕ, suc, ◌≤◌}
use lib.Dec.{T}
use lib.ListN.{length, take, drop}
use Rattle.field.specs.declared.sign.Sign.{Sign}
use Rattle.field.specs.declared.sign.Sign.TheVariants.{Neg, Zero, Pos}
use Rattle.field.specs.Field.{RealClosedField}
use Rattle.roots.specs.Interval.{End, Open, At, Ordered}
use Rattle.roots.proofs.Inside.{inhabited}
use Rattle.poly.specs.Poly.{Poly}
use Rattle.poly.specs.Leading.{derivative, degree}
use Rattle.poly.specs.Modest.{Checked, TooBig, Fine}
use Rattle.poly.specs.Division.{remainder}
use Rattle.poly.specs.Value.{value, Depth}
use Rattle.poly.proofs.Remainder.{remainder_sign}
use Rattle.sign_table.specs.Facts.{Is}
use Rattle.sign_table.specs.Leadings.{Left, Plain, Real}
use Rattle.sign_table.specs.Deduce.{Row, is_zero_sign, any_zero, at_root, row_of, rows_of, condensed, first_sign, without_first_sign, intervals, far_left, dropped, known_zero, the_sign, deduced}
use Rattle.sign_table.specs.Table.{poly_of, polys, remainders, all_fine, fine_ones}
use Rattle.sign_table.specs.Meaning.{DepthAll}
use Rattle.sign_table.specs.Right.{signs_at, OnInterval, Along, HasSigns, RootWithSigns, Right}
use Rattle.sign_table.proofs.Along.{on_test, along_map, along_condensed}
use Rattle.sign_table.proofs.Lefts.{Every, every_map, DepthLeft, polys_depths}
use Rattle.sign_table.proofs.Headed.{HasLeading, Headed, headed_depth, derivative-headed}
use Rattle.sign_table.proofs.Merge.{merged}
use Rattle.sign_table.proofs.Between.{OthersSigns, RowSigns, intervals_right}

take-map : {A B C : Type 0} (g : B → C) (h : A → B) (xs : List A) (ys : List B) → take (length xs) (map g (map h xs ++ ys)) ≡ map g (map h xs)
take-map g h [] ys = refl
take-map {C} g h (x ∷ xs) ys = ap {B = List C} (λ r. g (h x) ∷ r) (take-map g h xs ys)

drop-map : {A B C : Type 0} (g : B → C) (h : A → B) (xs : List A) (ys : List B) → drop (length xs) (map g (map h xs ++ ys)) ≡ map g ys
drop-map g h [] ys = refl
drop-map g h (x ∷ xs) ys = drop-map g h xs ys

pub zero_sign-is : (s : Sign) → T (is_zero_sign s) → s ≡ Zero
zero_sign-is Neg t = absurd t
zero_sign-is Zero t = refl
zero_sign-is Pos t = absurd t

either : (a b : Bool) → T (a || b) → T (not a) → T b
either true b t n = absurd n
either false b t n = t

-- p or one of the others is zero
abbrev pub has_zero : Row → Bool
has_zero x = known_zero x.this || any_zero x.others

module _ {R : Type 0} (f : RealClosedField R) (e : List R) where
  open f use {zero as 𝟘, sign}

  abbrev n : ℕ
  n = length e

  -- a row has the signs of p and of the others, and one of these is zero
  abbrev pub ZeroSigns : Poly → List Poly → R → Row → Type 0
  ZeroSigns p qs c row = RowSigns f e p qs c row × T (has_zero row)

  headed_depths : (ls : List Left) → Every (Headed f e) ls → DepthAll (suc n) (polys ls)
  headed_depths ls h = polys_depths n ls (every_map (Headed f e) (DepthLeft n) (headed_depth f e) ls h)

  -- where one of the divisors is zero, p has the sign of its remainder
  at_root_lem : (p : Poly) → Depth (suc n) p → (x : R) (ls : List Left) → Every (Headed f e) ls → T (all_fine (remainders n p ls)) →
      T (any_zero (signs_at f (polys ls) (x ∷ e))) →
      at_root (signs_at f (polys ls) (x ∷ e)) (signs_at f (fine_ones (remainders n p ls)) (x ∷ e)) ≡ Is (sign (value f p (x ∷ e)))
  unfolding fine_ones all_fine any_zero at_root
  at_root_lem p d x [] h fine t = absurd t
  at_root_lem p d x (Plain s ∷ ls) h fine t = absurd h.0
  at_root_lem p d x (Real q s ∷ ls) h fine t = go (remainder n s q p) refl fine (at_root_lem p d x ls h.1)
    where
      q_sign : Sign
      q_sign = sign (value f q (x ∷ e))

      go : (r : Checked) → remainder n s q p ≡ r → T (all_fine (r ∷ remainders n p ls)) →
          (T (all_fine (remainders n p ls)) → T (any_zero (signs_at f (polys ls) (x ∷ e))) →
          at_root (signs_at f (polys ls) (x ∷ e)) (signs_at f (fine_ones (remainders n p ls)) (x ∷ e)) ≡ Is (sign (value f p (x ∷ e)))) →
          at_root (q_sign ∷ signs_at f (polys ls) (x ∷ e)) (signs_at f (fine_ones (r ∷ remainders n p ls)) (x ∷ e)) ≡ Is (sign (value f p (x ∷ e)))
      go TooBig r-is fine' rec = absurd fine'
      go (Fine r) r-is fine' rec =
          on_test (is_zero_sign q_sign)
          (λ b. cond b (Is (sign (value f r (x ∷ e)))) (at_root (signs_at f (polys ls) (x ∷ e)) (signs_at f (fine_ones (remainders n p ls)) (x ∷ e))) ≡ Is (sign (value f p (x ∷ e))))
          (λ z. ap Is (remainder_sign f e x s q p r h.0.depth d h.0.not_zero h.0.is r-is (f.sign_zero (value f q (x ∷ e)) (zero_sign-is q_sign z))))
          (λ z. rec fine' (either (is_zero_sign q_sign) (any_zero (signs_at f (polys ls) (x ∷ e))) t z))

  module _ (p : Poly) (s : Sign) (p-headed : HasLeading f e p s) (p-real : 1 ≤ degree p) (ls : List Left) (ls_headed : Every (Headed f e) ls) where
    abbrev d : Poly
    d = derivative n p

    abbrev qs : List Left
    qs = Real d s ∷ ls

    abbrev rems : List Poly
    rems = fine_ones (remainders n p qs)

    d_headed : HasLeading f e d s
    d_headed = derivative-headed f e p s p-headed p-real

    -- at a point p's sign is known if one of the others is zero
    abbrev PointSigns : R → Row → Type 0
    PointSigns c row = (T (any_zero row.others) → row.this ≡ Is (sign (value f p (c ∷ e)))) × OthersSigns f e (polys qs) c row

    others_of : (x : R) (r : List Sign) → HasSigns f e (polys qs ++ rems) x r → OthersSigns f e (polys qs) x (row_of (length qs) r)
    others_of x r h = sym (take-map (λ q. sign (value f q (x ∷ e))) poly_of qs rems) ∙ ap (take (length qs)) h

    point_of : T (all_fine (remainders n p qs)) → (c : R) (r : List Sign) → HasSigns f e (polys qs ++ rems) c r → PointSigns c (row_of (length qs) r)
    point_of fine c r h = (known, others_of c r h)
      where
        known : T (any_zero (take (length qs) r)) → at_root (take (length qs) r) (drop (length qs) r) ≡ Is (sign (value f p (c ∷ e)))
        known t =
            ap₂ at_root (sym (others_of c r h)) (sym (sym (drop-map (λ q. sign (value f q (c ∷ e))) poly_of qs rems) ∙ ap (drop (length qs)) h))
            ∙ at_root_lem p p-headed.depth c qs (d_headed, ls_headed) fine (subst (λ o. T (any_zero o)) (sym (others_of c r h)) t)

    -- a row of p and the others as one list of signs
    abbrev signs_of : Row → List Sign
    signs_of row = the_sign row.this ∷ row.others

    row_signs : (x : R) (row : Row) → RowSigns f e p (polys ls) x row → HasSigns f e (p ∷ polys ls) x (signs_of row)
    row_signs x row h = ap₂ {C = List Sign} (λ u v. u ∷ v) (sym (ap the_sign h.0)) h.1

    merge_others : (l : End R) (c : R) (r : End R) (i x j : Row) → Ordered f Pos l (At c) → Ordered f Pos (At c) r →
        OnInterval f (OthersSigns f e (polys qs)) l (At c) i → PointSigns c x → T (not (any_zero x.others)) → OnInterval f (OthersSigns f e (polys qs)) (At c) r j → OnInterval f (OthersSigns f e (polys qs)) l r j
    merge_others l c r i x j o-l o-r on-l at t on-r =
        merged f e (polys qs) (headed_depths qs (d_headed, ls_headed)) l c r o-l o-r i.others j.others on-l
        (subst (λ o. T (not (any_zero o))) (sym at.1) t) on-r

    merge_rows : (l : End R) (c : R) (r : End R) (i x j : Row) → Ordered f Pos l (At c) → Ordered f Pos (At c) r →
        OnInterval f (RowSigns f e p (polys ls)) l (At c) i → RowSigns f e p (polys ls) c x → T (not (has_zero x)) → OnInterval f (RowSigns f e p (polys ls)) (At c) r j → OnInterval f (RowSigns f e p (polys ls)) l r j
    unfolding any_zero
    merge_rows l c r i x j o-l o-r on-l at t on-r y k =
        let whole : HasSigns f e (p ∷ polys ls) y (signs_of j) =
        merged f e (p ∷ polys ls) (p-headed.depth, headed_depths ls ls_headed) l c r o-l o-r (signs_of i) (signs_of j) (λ z w. row_signs z i (on-l z w))
        (subst₂ (λ u o. T (not (known_zero u || any_zero o))) at.0 (sym at.1) t) (λ z w. row_signs z j (on-r z w)) y k in
        let (z, w) = inhabited f Pos (At c) r o-r in
        let j-is : j.this ≡ Is (the_sign j.this) = (on-r z w).0 ∙ ap Is (sym (ap the_sign (on-r z w).0)) in
        (j-is ∙ ap Is (sym (ap first_sign whole)), ap without_first_sign whole)

    pub deduced_right : T (all_fine (remainders n p qs)) → (m : List (List Sign)) → Right f e (polys qs ++ rems) m →
        Along f (RowSigns f e p (polys ls)) (ZeroSigns p (polys ls)) Open (deduced (length qs) m)
    deduced_right fine m right =
        let Others = OthersSigns f e (polys qs) in
        let Both = RowSigns f e p (polys qs) in
        let Final = RowSigns f e p (polys ls) in
        let rows = rows_of (length qs) m in
        let kept = condensed rows in
        let all = intervals (far_left kept) kept in
        let without-derivative : (x : R) (r : Row) → Both x r → Final x (record { this = r.this; others = without_first_sign r.others }) = λ x r h. (h.0, ap without_first_sign h.1) in
        let rows_right : Along f Others PointSigns Open rows = along_map f (HasSigns f e (polys qs ++ rems)) (RootWithSigns f e (polys qs ++ rems)) Others PointSigns (row_of (length qs)) others_of (λ c r h. point_of fine c r h.0) Open m right in
        let kept-right : Along f Others Both Open kept = along_condensed f Others PointSigns Both (λ x. any_zero x.others) merge_others (λ c x h t. (h.0 t, h.1)) Open rows rows_right in
        let all_right : Along f Both Both Open all = intervals_right f e p p-headed.depth s d_headed (polys ls) Open kept kept-right in
        along_condensed f Final Final (ZeroSigns p (polys ls)) has_zero merge_rows (λ c x h t. (h, t)) Open (dropped all)
        (along_map f Both Both Final Final (λ r. record { this = r.this; others = without_first_sign r.others }) without-derivative without-derivative Open all all_right)
