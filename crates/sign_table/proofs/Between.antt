-- p on an interval where its derivative isn't zero: the rows put between two points are right. Assumes nothing.
use mathlib.Core.Path.{◌≡◌, refl, sym, ◌∙◌, ap, subst}
use mathlib.Core.Logic.{◌⊎◌, inl, inr}
use mathlib.Core.List.{List, [], ◌∷◌}
use Prim.Native.Nat.{suc}
use lib.ListN.{length}
use Rattle.field.specs.declared.sign.Sign.{Sign}
use Rattle.field.specs.declared.sign.Sign.TheVariants.{Neg, Zero, Pos}
use Rattle.field.specs.Sign.{flip}
use Rattle.field.specs.Field.{RealClosedField}
use Rattle.field.specs.Order.{NotZero}
use Rattle.field.proofs.Signs.{Same, same, not_zero}
use Rattle.field.proofs.Order.{zero_sign}
use Rattle.roots.specs.Value.{value as value_of}
use Rattle.roots.specs.Interval.{End, Open, At, After, Ordered}
use Rattle.roots.specs.Analysis.{SlopeSign, ValueSign, sign_from, sign_to, Crosses}
use Rattle.roots.proofs.Inside.{after_trans, before-trans, at_or_after, at_or_before}
use Rattle.roots.proofs.Split.{steady, splits, ends_apart}
use Rattle.poly.specs.Poly.{Poly}
use Rattle.poly.specs.Leading.{derivative}
use Rattle.poly.specs.Value.{value, Depth, coefficients_at}
use Rattle.poly.proofs.Values.{value_horner}
use Rattle.poly.proofs.Leading.{value_derivative}
use Rattle.sign_table.specs.Facts.{Known, Is}
use Rattle.sign_table.specs.Deduce.{Row, row_is, between, first_sign, intervals, far_left}
use Rattle.sign_table.specs.Right.{OnInterval, Along, HasSigns}
use Rattle.sign_table.proofs.Along.{ordered_open}
use Rattle.sign_table.proofs.Headed.{HasLeading, not_zero_within}

-- a row has the signs of the others
abbrev pub OthersSigns : {R : Type 0} → RealClosedField R → List R → List Poly → R → Row → Type 0
OthersSigns f e qs x row = HasSigns f e qs x row.others

-- a row has the signs of p and of the others
abbrev pub RowSigns : {R : Type 0} → RealClosedField R → List R → Poly → List Poly → R → Row → Type 0
RowSigns f e p qs x row = (row.this ≡ Is (f.sign (value f p (x ∷ e)))) × OthersSigns f e qs x row

module _ {R : Type 0} (f : RealClosedField R) where
  -- what comes after an interval that ends at r
  abbrev Onward : {A : Type 0} → (P Q : R → A → Type 0) → End R → List A → Type 0
  Onward P Q Open [] = Unit {0}
  Onward P Q Open (x ∷ rs) = ⊥
  Onward P Q (At c) [] = ⊥
  Onward P Q (At c) (x ∷ rs) = Q c x × Along f P Q (At c) rs

  along_step : {A : Type 0} (P Q : R → A → Type 0) (l r : End R) (i : A) (rest : List A) → Ordered f Pos l r → OnInterval f P l r i →
      Onward P Q r rest → Along f P Q l (i ∷ rest)
  unfolding Along
  along_step P Q l Open i [] o h t = h
  along_step P Q l Open i (x ∷ rs) o h t = absurd t
  along_step P Q l (At c) i [] o h t = absurd t
  along_step P Q l (At c) i (x ∷ rs) o h t = (c, o, h, t.0, t.1)

  ordered_to : (l : End R) (c : R) → After f Pos l c → Ordered f Pos l (At c)
  ordered_to Open c p = tt
  ordered_to (At a) c p = p

module _ {R : Type 0} (f : RealClosedField R) (e : List R) (p : Poly) (d : Depth (suc (length e)) p) (s₀ : Sign)
    (d_headed : HasLeading f e (derivative (length e) p) s₀) (qs : List Poly) where
  open f use {zero as 𝟘, sign}

  abbrev cs : List R
  cs = coefficients_at f e p

  -- the derivative is the first of the others
  abbrev Others : R → Row → Type 0
  Others = OthersSigns f e (derivative (length e) p ∷ qs)

  abbrev Both : R → Row → Type 0
  Both = RowSigns f e p (derivative (length e) p ∷ qs)

  at : (x : R) → sign (value f p (x ∷ e)) ≡ sign (value_of f cs x)
  at x = ap sign (value_horner f (length e) e x p d)

  -- p stays of one sign, or crosses zero once, and that is what is put between
  abbrev Found : End R → End R → (left right : Sign) → List Sign → Type 0
  Found l r left right o =
      ((t : Sign) × ValueSign f Pos t cs l r × ((rest : List Row) → between (Is left) (Is right) o rest ≡ row_is t o ∷ rest))
      ⊎ ((t : Sign) × Crosses f Pos t cs l r × ((rest : List Row) → between (Is left) (Is right) o rest ≡ row_is t o ∷ row_is Zero o ∷ row_is (flip t) o ∷ rest))

  found : (s : Sign) → NotZero s → (l r : End R) → Ordered f Pos l r → SlopeSign f Pos s cs l r → (o : List Sign) →
      (left right : Sign) → sign_from f Pos s cs l ≡ left → sign_to f Pos s cs r ≡ right → Found l r left right o
  found s n l r ord slopes o = go
    where
      stays : (t : Sign) → NotZero t → (left right : Sign) → (Same left (flip t) → ⊥) → (Same right (flip t) → ⊥) →
          sign_from f Pos s cs l ≡ left → sign_to f Pos s cs r ≡ right → ValueSign f Pos t cs l r
      stays t k left right a b u v = steady f Pos s tt n cs t k l r slopes (λ h. a (same (sym u ∙ h))) (λ h. b (same (sym v ∙ h)))

      go : (left right : Sign) → sign_from f Pos s cs l ≡ left → sign_to f Pos s cs r ≡ right → Found l r left right o
      go Neg Neg u v = inl (Neg, stays Neg tt Neg Neg (λ z. z) (λ z. z) u v, λ rest. refl)
      go Neg Zero u v = inl (Neg, stays Neg tt Neg Zero (λ z. z) (λ z. z) u v, λ rest. refl)
      go Neg Pos u v = inr (Neg, splits f Pos s tt n cs Neg tt l r ord slopes u v, λ rest. refl)
      go Zero Neg u v = inl (Neg, stays Neg tt Zero Neg (λ z. z) (λ z. z) u v, λ rest. refl)
      go Zero Zero u v = absurd (ends_apart f Pos s tt n cs l r ord slopes u v)
      go Zero Pos u v = inl (Pos, stays Pos tt Zero Pos (λ z. z) (λ z. z) u v, λ rest. refl)
      go Pos Neg u v = inr (Pos, splits f Pos s tt n cs Pos tt l r ord slopes u v, λ rest. refl)
      go Pos Zero u v = inl (Pos, stays Pos tt Pos Zero (λ z. z) (λ z. z) u v, λ rest. refl)
      go Pos Pos u v = inl (Pos, stays Pos tt Pos Pos (λ z. z) (λ z. z) u v, λ rest. refl)

  between_right : (l r : End R) → Ordered f Pos l r → (o : List Sign) → OnInterval f (HasSigns f e (derivative (length e) p ∷ qs)) l r o → (rest : List Row) →
      Onward f Both Both r rest → Along f Both Both l (between (Is (sign_from f Pos (first_sign o) cs l)) (Is (sign_to f Pos (first_sign o) cs r)) o rest)
  between_right l r ord o on rest onward = go (found s s_not_zero l r ord slopes o (sign_from f Pos s cs l) (sign_to f Pos s cs r) refl refl)
    where
      s : Sign
      s = first_sign o

      slopes : SlopeSign f Pos s cs l r
      slopes x i = ap sign (sym (value_derivative f e x p d)) ∙ ap first_sign (on x i)

      s_not_zero : NotZero s
      s_not_zero =
          let (x, i, h) = not_zero_within f e (derivative (length e) p) s₀ d_headed l r ord in
          not_zero s (λ z. h (ap first_sign (on x i) ∙ z))

      go : Found l r (sign_from f Pos s cs l) (sign_to f Pos s cs r) o →
          Along f Both Both l (between (Is (sign_from f Pos s cs l)) (Is (sign_to f Pos s cs r)) o rest)
      go (inl (t, signs, rows)) =
          subst (Along f Both Both l) (sym (rows rest))
          (along_step f Both Both l r (row_is t o) rest ord (λ x i. (ap Is (sym (at x ∙ signs x i)), on x i)) onward)
      go (inr (t, (c, inside, root, before, after), rows)) =
          subst (Along f Both Both l) (sym (rows rest))
          (along_step f Both Both l (At c) (row_is t o) (row_is Zero o ∷ row_is (flip t) o ∷ rest) (ordered_to f l c inside.0)
          (λ x i. (ap Is (sym (at x ∙ before x i)), on x (i.0, before-trans f Pos r x c i.1 (at_or_before f Pos r c inside.1)))) (
            (ap Is (sym (at c ∙ zero_sign f (value_of f cs c) root)), on c inside),
            along_step f Both Both (At c) r (row_is (flip t) o) rest inside.1
                (λ x i. (ap Is (sym (at x ∙ after x i)), on x (after_trans f Pos l c x (at_or_after f Pos l c inside.0) i.0, i.1))) onward,
          ))

  -- p's sign at the left end of the first interval
  abbrev pub left_sign : End R → List Row → Known
  left_sign Open m = far_left m
  left_sign (At c) m = Is (sign (value_of f cs c))

  left_is : (l : End R) (i : Row) (rs : List Row) → left_sign l (i ∷ rs) ≡ Is (sign_from f Pos (first_sign i.others) cs l)
  left_is Open i rs = refl
  left_is (At c) i rs = refl

  pub intervals_right : (l : End R) (m : List Row) → Along f Others Both l m → Along f Both Both l (intervals (left_sign l m) m)
  unfolding Along intervals
  intervals_right l [] a = a
  intervals_right l (i ∷ []) a =
      subst (λ u. Along f Both Both l (between u (Is (first_sign i.others)) i.others [])) (sym (left_is l i []))
      (between_right l Open (ordered_open f l) i.others a [] tt)
  intervals_right l (i ∷ x ∷ rs) a =
      let c = a.0 in
      let right : x.this ≡ Is (sign (value_of f cs c)) = a.3.0 ∙ ap Is (at c) in
      subst (λ u. Along f Both Both l (between u x.this i.others (x ∷ intervals x.this rs))) (sym (left_is l i (x ∷ rs)))
      (subst (λ u. Along f Both Both l (between (Is (sign_from f Pos (first_sign i.others) cs l)) u i.others (x ∷ intervals u rs))) (sym right)
      (between_right l (At c) a.1 i.others a.2 (x ∷ intervals (Is (sign (value_of f cs c))) rs) (a.3, intervals_right (At c) rs a.4)))
