-- Rows along the line: mapped, condensed, and read off at a number. Assumes nothing.
use mathlib.Core.Path.{◌≡◌, refl, sym, subst}
use mathlib.Core.Bool.{Bool, true, false, not}
use mathlib.Core.Logic.{◌⊎◌, inl, inr}
use mathlib.Core.List.{List, [], ◌∷◌, map}
use lib.Dec.{T}
use Rattle.field.specs.declared.sign.Sign.TheVariants.{Pos}
use Rattle.field.specs.Field.{RealClosedField}
use Rattle.field.specs.Order.{To}
use Rattle.field.proofs.Order.{to_trans, trichotomy}
use Rattle.roots.specs.Interval.{End, Open, At, After, Inside, Ordered}
use Rattle.roots.proofs.Inside.{inhabited}
use Rattle.sign_table.specs.Deduce.{Row, kept_if, condensed_by}
use Rattle.sign_table.specs.Right.{Member, OnInterval, Along, points_along, Rising}

-- by the outcome of a test
pub on_test : (b : Bool) (P : Bool → Type 0) → (T b → P true) → (T (not b) → P false) → P b
on_test true P h k = h tt
on_test false P h k = k tt

module _ {R : Type 0} (f : RealClosedField R) where
  pub ordered_trans : (l : End R) (c d : R) → Ordered f Pos l (At c) → To f Pos c d → Ordered f Pos l (At d)
  ordered_trans Open c d o p = tt
  ordered_trans (At a) c d o p = to_trans f Pos a c d o p

  pub along_map : {A B : Type 0} (P Q : R → A → Type 0) (P' Q' : R → B → Type 0) (g : A → B) →
      ((x : R) (r : A) → P x r → P' x (g r)) → ((x : R) (r : A) → Q x r → Q' x (g r)) →
      (l : End R) (m : List A) → Along f P Q l m → Along f P' Q' l (map g m)
  unfolding Along
  along_map P Q P' Q' g h k l [] a = a
  along_map P Q P' Q' g h k l (i ∷ []) a = λ x o. h x i (a x o)
  along_map P Q P' Q' g h k l (i ∷ x ∷ rs) a =
      (a.0, a.1, (λ y o. h y i (a.2 y o)), k a.0 x a.3, along_map P Q P' Q' g h k (At a.0) rs a.4)

  -- the first interval may be made longer to the left
  extended : {A : Type 0} (P Q : R → A → Type 0) (l : End R) (c : R) (m : List A) → Ordered f Pos l (At c) →
      ((r : End R) (j : A) → Ordered f Pos (At c) r → OnInterval f P (At c) r j → OnInterval f P l r j) → Along f P Q (At c) m → Along f P Q l m
  unfolding Along
  extended P Q l c [] o h a = a
  extended P Q l c (j ∷ []) o h a = h Open j tt a
  extended P Q l c (j ∷ y ∷ rs) o h a = (a.0, ordered_trans l c a.0 o a.1, h (At a.0) j a.1 a.2, a.3, a.4)

  -- Where a point that isn't wanted has on both sides the signs of the interval after it, it may go. Q' is what is known of the points that stay.
  module _ (P Q Q' : R → Row → Type 0) (wanted : Row → Bool)
      (merge : (l : End R) (c : R) (r : End R) (i x j : Row) → Ordered f Pos l (At c) → Ordered f Pos (At c) r →
      OnInterval f P l (At c) i → Q c x → T (not (wanted x)) → OnInterval f P (At c) r j → OnInterval f P l r j)
      (keep : (c : R) (x : Row) → Q c x → T (wanted x) → Q' c x) where
    pub along_condensed : (l : End R) (m : List Row) → Along f P Q l m → Along f P Q' l (condensed_by wanted m)
    unfolding Along condensed_by
    along_condensed l [] a = a
    along_condensed l (i ∷ []) a = a
    along_condensed l (i ∷ x ∷ rs) a =
        on_test (wanted x) (λ b. Along f P Q' l (kept_if b i x (condensed_by wanted rs)))
        (λ t. (a.0, a.1, a.2, keep a.0 x a.3 t, along_condensed (At a.0) rs a.4))
        (λ t. extended P Q' l a.0 (condensed_by wanted rs) a.1 (λ r j o h. merge l a.0 r i x j a.1 o a.2 a.3 t h)
        (along_condensed (At a.0) rs a.4))

  pub ordered_open : (l : End R) → Ordered f Pos l Open
  ordered_open Open = tt
  ordered_open (At a) = tt

  -- a row of an interval in which x lies
  abbrev pub IntervalRow : {A : Type 0} → (P : R → A → Type 0) → R → A → Type 0
  IntervalRow P x row = (l : End R) × (r : End R) × Ordered f Pos l r × Inside f Pos l r x × OnInterval f P l r row

  -- the row of a number: of an interval, or of one of the points cs
  abbrev pub RowAt : {A : Type 0} → (P Q : R → A → Type 0) → List A → List R → R → Type 0
  RowAt {A} P Q m cs x = (row : A) × Member row m × (IntervalRow P x row ⊎ (Member x cs × Q x row))

  pub row_at : {A : Type 0} (P Q : R → A → Type 0) (l : End R) (m : List A) (a : Along f P Q l m) (x : R) → After f Pos l x → RowAt P Q m (points_along f P Q l m a) x
  unfolding Along points_along
  row_at P Q l [] a x p = absurd a
  row_at P Q l (i ∷ []) a x p = (i, inl refl, inl (l, Open, ordered_open l, (p, tt), a))
  row_at P Q l (i ∷ y ∷ rs) a x p = go (trichotomy f x a.0) (row_at P Q (At a.0) rs a.4 x)
    where
      further : RowAt P Q rs (points_along f P Q (At a.0) rs a.4) x → RowAt P Q (i ∷ y ∷ rs) (points_along f P Q l (i ∷ y ∷ rs) a) x
      further h = (h.0, inr (inr h.1), elim h.2 [ inl u ↦ inl u | inr u ↦ inr (inr u.0, u.1) ])

      go : (To f Pos x a.0) ⊎ ((x ≡ a.0) ⊎ (To f Pos a.0 x)) → (To f Pos a.0 x → RowAt P Q rs (points_along f P Q (At a.0) rs a.4) x) →
          RowAt P Q (i ∷ y ∷ rs) (points_along f P Q l (i ∷ y ∷ rs) a) x
      go (inl before) rec = (i, inl refl, inl (l, At a.0, a.1, (p, before), a.2))
      go (inr (inl here)) rec = (y, inr (inl refl), inr (inl here, subst (λ z. Q z y) (sym here) a.3))
      go (inr (inr after)) rec = further (rec after)

  -- every row has its number
  pub row_attained : {A : Type 0} (P Q : R → A → Type 0) (l : End R) (m : List A) → Along f P Q l m → (row : A) → Member row m → (x : R) × (P x row ⊎ Q x row)
  unfolding Along
  row_attained P Q l [] a row h = absurd a
  row_attained P Q l (i ∷ []) a row (inl h) = let (x, o) = inhabited f Pos l Open (ordered_open l) in (x, inl (subst (P x) (sym h) (a x o)))
  row_attained P Q l (i ∷ []) a row (inr h) = absurd h
  row_attained P Q l (i ∷ y ∷ rs) a row (inl h) = let (x, o) = inhabited f Pos l (At a.0) a.1 in (x, inl (subst (P x) (sym h) (a.2 x o)))
  row_attained P Q l (i ∷ y ∷ rs) a row (inr (inl h)) = (a.0, inr (subst (Q a.0) (sym h) a.3))
  row_attained P Q l (i ∷ y ∷ rs) a row (inr (inr h)) = row_attained P Q (At a.0) rs a.4 row h

  -- every point has its row
  pub point_row : {A : Type 0} (P Q : R → A → Type 0) (l : End R) (m : List A) (a : Along f P Q l m) (c : R) → Member c (points_along f P Q l m a) → (row : A) × Q c row
  unfolding Along points_along
  point_row P Q l [] a c h = absurd a
  point_row P Q l (i ∷ []) a c h = absurd h
  point_row P Q l (i ∷ y ∷ rs) a c (inl h) = (y, subst (λ z. Q z y) (sym h) a.3)
  point_row P Q l (i ∷ y ∷ rs) a c (inr h) = point_row P Q (At a.0) rs a.4 c h

  pub points_rise : {A : Type 0} (P Q : R → A → Type 0) (l : End R) (m : List A) (a : Along f P Q l m) → Rising f l (points_along f P Q l m a)
  unfolding Along points_along
  points_rise P Q l [] a = absurd a
  points_rise P Q l (i ∷ []) a = tt
  points_rise P Q l (i ∷ y ∷ rs) a = (a.1, points_rise P Q (At a.0) rs a.4)
