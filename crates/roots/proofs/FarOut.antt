-- Far out a polynomial is constant or passes every bound; where the slope keeps the sign s, the sign far out in the direction e is e times s.
use mathlib.Core.Path.{◌≡◌, refl, sym, ◌∙◌, ap}
use mathlib.Core.Logic.{◌⊎◌, inl, inr}
use mathlib.Core.List.{List, [], ◌∷◌}
use Rattle.field.specs.declared.sign.Sign.{Sign}
use Rattle.field.specs.declared.sign.Sign.TheVariants.{Zero}
use Rattle.field.specs.Field.{RealClosedField}
use Rattle.field.specs.Order.{NotZero, To}
use Rattle.field.specs.Sign.{flip, times}
use Rattle.field.proofs.Ring.{ring, mul_zero, one_mul}
use Rattle.field.proofs.Signs.{decide-sign, not_zero, flip-flip, times-times, times_not_zero}
use Rattle.field.proofs.Order.{to_trans, to_apart, from_zero, beyond, beyond_both, unit, sign_unit, unit_square, mul_inv_cancel, sign_add_same, sign_add_weak, sign-mul_of, sign-neg_of}
use Rattle.roots.specs.Value.{value, slope}
use Rattle.roots.specs.Analysis.{Constant, Passes}
use Rattle.roots.proofs.Quotient.{value_none, value_cons}
use Rattle.roots.proofs.Monotone.{monotone}

module _ {R : Type 0} (f : RealClosedField R) where
  open f use {zero as 𝟘, add as ◌+◌, mul as ◌*◌, neg as -◌, inv, sign}

  infixl 60 ◌+◌
  infixl 70 ◌*◌
  infix 80 -◌
  abbrev Either : Sign → List R → Type 0
  Either e cs = Constant f cs ⊎ ((t : Sign) × NotZero t × Passes f e t cs)

  -- c + x d, with a d that is not zero
  line_passes : (e : Sign) → NotZero e → (c : R) (cs : List R) (d : R) → ((x : R) → value f cs x ≡ d) → (sign d ≡ Zero → ⊥) → Passes f e (times e (sign d)) (c ∷ cs)
  line_passes e n c cs d flat d_not_zero a l =
      let x0 : R = (l + - c) * inv d in
      let (x, a_x, x0-x) = beyond_both f e n a x0 in
      let difference : (x d : R) → (c + x * d) + - l ≡ x * d + - (l + - c) = λ x d. simp ring in
      let factor : (x y d : R) → x * d + - (y * d) ≡ (x + - y) * d = λ x y d. simp ring in (
        x,
        a_x,
        ap sign (ap (λ w. w + - l) (value_cons f c cs x ∙ ap (λ w. c + x * w) (flat x)) ∙ difference x d ∙ ap (λ w. x * d + - w) (sym (mul_inv_cancel f d (l + - c) d_not_zero)) ∙ factor x x0 d)
            ∙ sign-mul_of f e (sign d) (x + - x0) d x0-x refl,
      )

  -- c + x p, with a p that passes every bound
  product_passes : (e t : Sign) → NotZero e → NotZero t → (c : R) (cs : List R) → Passes f e t cs → Passes f e (times e t) (c ∷ cs)
  product_passes e t n m c cs passes a l = go (decide-sign (sign (l + - c)) (times e t))
    where
      u : R
      u = unit f e

      b : (b : R) × To f e a b × To f e u b
      b = beyond_both f e n a u

      go : Dec (sign (l + - c) ≡ times e t) → (x : R) × To f e a x × To f (times e t) l (value f (c ∷ cs) x)
      go (yes h) =
          let bound : R = u * (l + - c) in
          let (x, b-x, past) = passes b.0 bound in
          let v : R = value f cs x in
          let sign-bound : sign bound ≡ t = sign-mul_of f e (times e t) u (l + - c) (sign_unit f e) h ∙ times-times e t n in
          let split : (v w : R) → (v + - w) + w ≡ v = λ v w. simp ring in
          let sign-v : sign v ≡ t = sym (ap sign (split v bound)) ∙ sign_add_same f t (v + - bound) bound past sign-bound in
          let spread : (x u v k : R) → (x + - u) * v + u * (v + - (u * k)) ≡ x * v + - ((u * u) * k) = λ x u v k. simp ring in
          let difference : (x v : R) → x * v + - (l + - c) ≡ (c + x * v) + - l = λ x v. simp ring in
          let sum : (x + - u) * v + u * (v + - bound) ≡ value f (c ∷ cs) x + - l =
          spread x u v (l + - c) ∙ ap (λ w. x * v + - w) (ap (λ w. w * (l + - c)) (unit_square f e n) ∙ one_mul f (l + - c)) ∙ difference x v ∙ ap (λ w. w + - l) (sym (value_cons f c cs x)) in
          let far : sign ((x + - u) * v) ≡ times e t = sign-mul_of f e t (x + - u) v (to_trans f e u b.0 x b.2 b-x) sign-v in
          let near : sign (u * (v + - bound)) ≡ times e t = sign-mul_of f e t u (v + - bound) (sign_unit f e) past in
          (x, to_trans f e a b.0 x b.1 b-x, sym (ap sign sum) ∙ sign_add_same f (times e t) ((x + - u) * v) (u * (v + - bound)) far near)
      go (no h) =
          let (x, b-x, past) = passes b.0 𝟘 in
          let v : R = value f cs x in
          let sign-v : sign v ≡ t = from_zero f t v past in
          let split : (v w : R) → (v + - w) + w ≡ v = λ v w. simp ring in
          let sign-x : sign x ≡ e = sym (ap sign (split x u)) ∙ sign_add_same f e (x + - u) u (to_trans f e u b.0 x b.2 b-x) (sign_unit f e) in
          let turned : - (c + - l) ≡ l + - c = simp ring in
          let not-against : sign (c + - l) ≡ flip (times e t) → ⊥ =
          λ k. h (sym (ap sign turned) ∙ sign-neg_of f (flip (times e t)) (c + - l) k ∙ flip-flip (times e t)) in
          let sum : (x v : R) → x * v + (c + - l) ≡ (c + x * v) + - l = λ x v. simp ring in (
            x,
            to_trans f e a b.0 x b.1 b-x,
            ap sign (ap (λ w. w + - l) (value_cons f c cs x) ∙ sym (sum x v)) ∙ sign_add_weak f (times e t) (times_not_zero e t n m) (x * v) (c + - l) (sign-mul_of f e t x v sign-x sign-v) not-against,
          )

  pub constant_or_passes : (e : Sign) → NotZero e → (cs : List R) → Constant f cs ⊎ ((t : Sign) × NotZero t × Passes f e t cs)
  constant_or_passes e n [] = inl (λ x y. value_none f x ∙ sym (value_none f y))
  constant_or_passes e n (c ∷ cs) = step (constant_or_passes e n cs)
    where
      step : Either e cs → Either e (c ∷ cs)
      step (inl flat) = go (decide-sign (sign (value f cs 𝟘)) Zero)
        where
          go : Dec (sign (value f cs 𝟘) ≡ Zero) → Either e (c ∷ cs)
          go (yes h) =
              let only : (x : R) → value f (c ∷ cs) x ≡ c + 𝟘 =
              λ x. value_cons f c cs x ∙ ap (λ w. c + w) (ap (λ w. x * w) (flat x 𝟘 ∙ f.sign_zero (value f cs 𝟘) h) ∙ mul_zero f x) in
              inl (λ x y. only x ∙ sym (only y))
          go (no h) = inr (times e (sign (value f cs 𝟘)), times_not_zero e (sign (value f cs 𝟘)) n (not_zero (sign (value f cs 𝟘)) h), line_passes e n c cs (value f cs 𝟘) (λ x. flat x 𝟘) h)
      step (inr (t, m, passes)) = inr (times e t, times_not_zero e t n m, product_passes e t n m c cs passes)

  pub far_out : (e s : Sign) → NotZero e → NotZero s → (cs : List R) (a : R) → ((x : R) → To f e a x → sign (slope f cs x) ≡ s) →
      (b : R) → (x : R) × To f e b x × (sign (value f cs x) ≡ times e s)
  far_out e s n m cs a slopes b = go (constant_or_passes e n cs)
    where
      moves : (x : R) → To f e a x → To f (times e s) (value f cs a) (value f cs x)
      moves x a_x = monotone f e s n m cs a x a_x (λ y a_y y-x. slopes y a_y)

      go : Either e cs → (x : R) × To f e b x × (sign (value f cs x) ≡ times e s)
      go (inl flat) =
          let (x, a_x) = beyond f e a in
          absurd (to_apart f (times e s) (times_not_zero e s n m) (value f cs a) (value f cs x) (moves x a_x) (flat a x))
      go (inr (t, k, passes)) =
          let (y, a_y, past) = passes a (value f cs a) in
          let direction : t ≡ times e s = sym past ∙ moves y a_y in
          let (x, b-x, sign-x) = passes b 𝟘 in
          (x, b-x, from_zero f t (value f cs x) sign-x ∙ direction)
