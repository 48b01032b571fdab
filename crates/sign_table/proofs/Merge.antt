-- The signs at a point, none of them zero, are those on both sides: the point may go. Assumes nothing.
use mathlib.Core.Path.{◌≡◌, refl, sym, ◌∙◌, ap, ap₂, subst}
use mathlib.Core.Bool.{Bool, true, false, not, ◌||◌}
use mathlib.Core.Logic.{◌⊎◌, inl, inr}
use mathlib.Core.List.{List, [], ◌∷◌}
use Prim.Native.Nat.{suc}
use lib.Dec.{T}
use lib.ListN.{length}
use Rattle.field.specs.declared.sign.Sign.{Sign}
use Rattle.field.specs.declared.sign.Sign.TheVariants.{Neg, Zero, Pos}
use Rattle.field.specs.Field.{RealClosedField}
use Rattle.field.specs.Order.{NotZero, To}
use Rattle.field.proofs.Order.{trichotomy}
use Rattle.roots.specs.Interval.{End, At, Inside, Ordered}
use Rattle.roots.proofs.Inside.{inhabited, inside-turn, ordered_turn}
use Rattle.roots.proofs.NoJump.{no_jump}
use Rattle.poly.specs.Poly.{Poly}
use Rattle.poly.specs.Value.{value, coefficients_at}
use Rattle.poly.proofs.Values.{value_horner}
use Rattle.sign_table.specs.Deduce.{is_zero_sign, any_zero, first_sign, without_first_sign}
use Rattle.sign_table.specs.Meaning.{DepthAll}
use Rattle.sign_table.specs.Right.{signs_at, OnInterval, HasSigns}

neither : (a b : Bool) → T (not (a || b)) → T (not a) × T (not b)
neither true b t = absurd t
neither false b t = (tt, t)

sign_apart : (s : Sign) → T (not (is_zero_sign s)) → s ≡ Zero → ⊥
sign_apart s t p = subst (λ u. T (not (is_zero_sign u))) p t

module _ {R : Type 0} (f : RealClosedField R) (e : List R) where
  open f use {sign}

  -- in the direction w; y is any number beside the point c
  signs_beside : (w : Sign) → NotZero w → (ps : List Poly) → DepthAll (suc (length e)) ps → (c : R) (r : End R) → Ordered f w (At c) r → (y : R) →
      ((x : R) → Inside f w (At c) r x → signs_at f ps (x ∷ e) ≡ signs_at f ps (y ∷ e)) → T (not (any_zero (signs_at f ps (c ∷ e)))) →
      signs_at f ps (c ∷ e) ≡ signs_at f ps (y ∷ e)
  unfolding any_zero
  signs_beside w n [] d c r o y h t = refl
  signs_beside w n (p ∷ ps) d c r o y h t =
      let at : (x : R) → _ = λ x. value_horner f (length e) e x p d.0 in
      let (t-p, t-ps) = neither (is_zero_sign (sign (value f p (c ∷ e)))) (any_zero (signs_at f ps (c ∷ e))) t in
      ap₂ {C = List Sign} (λ s ss. s ∷ ss)
      (ap sign (at c)
      ∙ no_jump f w (sign (value f p (y ∷ e))) n (coefficients_at f e p) c r o (λ x i. ap sign (sym (at x)) ∙ ap first_sign (h x i))
      (λ z. sign_apart (sign (value f p (c ∷ e))) t-p (ap sign (at c) ∙ z)))
      (signs_beside w n ps d.1 c r o y (λ x i. ap without_first_sign (h x i)) t-ps)

  pub merged : (ps : List Poly) → DepthAll (suc (length e)) ps → (l : End R) (c : R) (r : End R) → Ordered f Pos l (At c) → Ordered f Pos (At c) r →
      (i j : List Sign) → OnInterval f (HasSigns f e ps) l (At c) i → T (not (any_zero (signs_at f ps (c ∷ e)))) → OnInterval f (HasSigns f e ps) (At c) r j →
      OnInterval f (HasSigns f e ps) l r j
  merged ps d l c r o-l o-r i j on-l t on-r = on
    where
      here_j : signs_at f ps (c ∷ e) ≡ j
      here_j =
          let (y, k) = inhabited f Pos (At c) r o-r in
          signs_beside Pos tt ps d c r o-r y (λ x h. on-r x h ∙ sym (on-r y k)) t ∙ on-r y k

      here_i : signs_at f ps (c ∷ e) ≡ i
      here_i =
          let (y, k) = inhabited f Pos l (At c) o-l in
          signs_beside Neg tt ps d c l (ordered_turn f Pos l (At c) o-l) y (λ x h. on-l x (inside-turn f Neg (At c) l x h) ∙ sym (on-l y k)) t ∙ on-l y k

      on : OnInterval f (HasSigns f e ps) l r j
      on x h = go (trichotomy f x c)
        where
          go : (To f Pos x c) ⊎ ((x ≡ c) ⊎ (To f Pos c x)) → signs_at f ps (x ∷ e) ≡ j
          go (inl before) = on-l x (h.0, before) ∙ sym here_i ∙ here_j
          go (inr (inl here)) = ap (λ z. signs_at f ps (z ∷ e)) here ∙ here_j
          go (inr (inr after)) = on-r x (after, h.1)
