-- The first root: where a polynomial leaves the sign s in the direction e, it has a root at which e times its slope is not s.
use mathlib.Core.Path.{◌≡◌, refl, sym, ◌∙◌, ap, subst}
use mathlib.Core.Logic.{◌⊎◌, inl, inr}
use mathlib.Core.List.{List, [], ◌∷◌}
use Prim.Native.Nat.{ℕ, zero, suc, ◌≤◌}
use native.Mathlib.Omega.{arith}
use lib.ListN.{length}
use Rattle.field.specs.declared.sign.Sign.{Sign}
use Rattle.field.specs.declared.sign.Sign.TheVariants.{Zero}
use Rattle.field.specs.Field.{RealClosedField}
use Rattle.field.specs.Order.{NotZero, To}
use Rattle.field.specs.Sign.{flip, times}
use Rattle.field.proofs.Ring.{ring, mul_zero, zero_add}
use Rattle.field.proofs.Signs.{decide-sign, not_zero_apart, flip-flip, flip_not_zero, flip_apart, flip-times, times-flip, times-times, times_zero, times_not_zero, zero_or_flip}
use Rattle.field.proofs.Order.{to_turn, to_trans, equal_to, zero_sign, sign-mul_of}
use Rattle.roots.specs.Value.{value, slope, quotient}
use Rattle.roots.specs.Interval.{UpTo}
use Rattle.roots.specs.Analysis.{RootAfter}
use Rattle.roots.proofs.Quotient.{no_room, value_none, value-quotient, slope-quotient, quotient-shorter}
use Rattle.roots.proofs.Attained.{root-between}

module _ {R : Type 0} (f : RealClosedField R) where
  open f use {zero as 𝟘, add as ◌+◌, mul as ◌*◌, neg as -◌, sign}

  infixl 60 ◌+◌
  infixl 70 ◌*◌
  infix 80 -◌
  pub up_to_trans : (e : Sign) (a b c : R) → UpTo f e b a → UpTo f e c b → UpTo f e c a
  up_to_trans e a b c (inl p) (inl q) = inl (p ∙ q)
  up_to_trans e a b c (inl p) (inr q) = inr (subst (λ w. To f e w c) (sym p) q)
  up_to_trans e a b c (inr p) (inl q) = inr (subst (λ w. To f e a w) q p)
  up_to_trans e a b c (inr p) (inr q) = inr (to_trans f e a b c p q)

  -- some root after a and up to b
  some-root : (e s : Sign) → NotZero e → NotZero s → (cs : List R) (a b : R) → To f e a b → sign (value f cs a) ≡ s → (sign (value f cs b) ≡ s → ⊥) →
      (c : R) × To f e a c × UpTo f e b c × (value f cs c ≡ 𝟘)
  some-root e s n m cs a b p q r = go (zero_or_flip s (sign (value f cs b)) m r)
    where
      go : (sign (value f cs b) ≡ Zero) ⊎ (sign (value f cs b) ≡ flip s) → (c : R) × To f e a c × UpTo f e b c × (value f cs c ≡ 𝟘)
      go (inl z) = (b, p, inl refl, f.sign_zero (value f cs b) z)
      go (inr o) = let (c, u, v, w) = root-between f e s n m cs a b p q o in (c, u, inr v, w)

  -- p = (x - c) q at a root c
  pub value_at_root : (cs : List R) (c x : R) → value f cs c ≡ 𝟘 → value f cs x ≡ (x + - c) * value f (quotient f c cs) x
  value_at_root cs c x z = value-quotient f c cs x ∙ ap (λ w. w + (x + - c) * value f (quotient f c cs) x) z ∙ zero_add f ((x + - c) * value f (quotient f c cs) x)

  pub slope_at : (cs : List R) (c : R) → slope f cs c ≡ value f (quotient f c cs) c
  slope_at cs c =
      let step : (v s : R) → v + (c + - c) * s ≡ v = λ v s. simp ring in
      slope-quotient f c cs c ∙ step (value f (quotient f c cs) c) (slope f (quotient f c cs) c)

  -- the slope of p at a root of its quotient
  pub slope_at_root : (cs : List R) (c x : R) → value f (quotient f c cs) x ≡ 𝟘 → slope f cs x ≡ (x + - c) * slope f (quotient f c cs) x
  slope_at_root cs c x z =
      slope-quotient f c cs x ∙ ap (λ w. w + (x + - c) * slope f (quotient f c cs) x) z ∙ zero_add f ((x + - c) * slope f (quotient f c cs) x)

  abbrev FirstRoots : ℕ → Type 0
  FirstRoots k = (e s : Sign) → NotZero e → NotZero s → (cs : List R) → length cs ≤ k → (a b : R) → To f e a b →
      sign (value f cs a) ≡ s → (sign (value f cs b) ≡ s → ⊥) → RootAfter f e s cs a b

  -- take a root, divide it out; if the quotient leaves its sign before that root, the first root of the quotient is the one
  first_root-step : (k : ℕ) → FirstRoots k → FirstRoots (suc k)
  first_root-step k rec e s n m cs h a b p q r =
      let (c, u, v, z) = some-root e s n m cs a b p q r in
      let at_a : sign (value f (quotient f c cs) a) ≡ times (flip e) s = quotient-sign c u z in
      go c u v z at_a (decide-sign (sign (value f (quotient f c cs) c)) (times (flip e) s))
    where
      m' : NotZero (times (flip e) s)
      m' = times_not_zero (flip e) s (flip_not_zero e n) m

      quotient-sign : (c : R) → To f e a c → value f cs c ≡ 𝟘 → sign (value f (quotient f c cs) a) ≡ times (flip e) s
      quotient-sign c u z =
          let t : Sign = sign (value f (quotient f c cs) a) in
          let product : times (flip e) t ≡ s =
          sym (sign-mul_of f (flip e) t (a + - c) (value f (quotient f c cs) a) (to_turn f e a c u) refl) ∙ ap sign (sym (value_at_root cs c a z)) ∙ q in
          sym (times-times (flip e) t (flip_not_zero e n)) ∙ ap (times (flip e)) product

      turned : (t : Sign) → times e (times (flip e) t) ≡ flip t
      turned t = ap (times e) (flip-times e t) ∙ times-flip e (times e t) ∙ ap flip (times-times e t n)

      go : (c : R) → To f e a c → UpTo f e b c → value f cs c ≡ 𝟘 → sign (value f (quotient f c cs) a) ≡ times (flip e) s →
          Dec (sign (value f (quotient f c cs) c) ≡ times (flip e) s) → RootAfter f e s cs a b
      go c u v z at_a (yes y) =
          (c, u, v, z, λ w. flip_apart s m (sym (turned s) ∙ ap (times e) (sym y ∙ ap sign (sym (slope_at cs c))) ∙ w))
      go c u v z at_a (no y) =
          let (d, u', v', z', w') = rec e (times (flip e) s) n m' (quotient f c cs) (quotient-shorter f k c cs h) a c u at_a y in
          let value-at-d : value f cs d ≡ 𝟘 = value_at_root cs c d z ∙ ap (λ w. (d + - c) * w) z' ∙ mul_zero f (d + - c) in
          (d, u', up_to_trans e d c b v' v, value-at-d, not_leaving d z' w' v')
        where
          not_leaving : (d : R) → value f (quotient f c cs) d ≡ 𝟘 → (times e (sign (slope f (quotient f c cs) d)) ≡ times (flip e) s → ⊥) → UpTo f e c d →
              times e (sign (slope f cs d)) ≡ s → ⊥
          not_leaving d z' w' (inl same_place) w =
              let flat : sign (slope f cs d) ≡ Zero =
              ap sign (slope_at_root cs c d z') ∙ sign-mul_of f Zero (sign (slope f (quotient f c cs) d)) (d + - c) (slope f (quotient f c cs) d) (equal_to f c d (sym same_place)) refl in
              not_zero_apart s m (sym w ∙ ap (times e) flat ∙ times_zero e)
          not_leaving d z' w' (inr before) w =
              let t : Sign = sign (slope f (quotient f c cs) d) in
              let product : sign (slope f cs d) ≡ times (flip e) t =
              ap sign (slope_at_root cs c d z') ∙ sign-mul_of f (flip e) t (d + - c) (slope f (quotient f c cs) d) (to_turn f e d c before) refl in
              let opposite : flip t ≡ s = sym (turned t) ∙ ap (times e) (sym product) ∙ w in
              w' (ap (times e) (sym (flip-flip t) ∙ ap flip opposite) ∙ times-flip e s ∙ sym (flip-times e s))

  first_root_within : (k : ℕ) → FirstRoots k
  first_root_within zero e s n m [] h a b p q r = absurd (not_zero_apart s m (sym q ∙ zero_sign f (value f [] a) (value_none f a)))
  first_root_within zero e s n m (c ∷ cs) h a b p q r = absurd (no_room c cs h)
  first_root_within (suc k) e s n m cs h a b p q r = first_root-step k (first_root_within k) e s n m cs h a b p q r

  pub first_root : (e s : Sign) → NotZero e → NotZero s → (cs : List R) (a b : R) → To f e a b →
      sign (value f cs a) ≡ s → (sign (value f cs b) ≡ s → ⊥) → RootAfter f e s cs a b
  first_root e s n m cs = first_root_within (length cs) e s n m cs (omega arith)
