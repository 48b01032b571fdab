-- A polynomial that is zero on an interval is zero everywhere; one whose leading coefficient is not zero is not zero somewhere in each.
use mathlib.Core.Path.{◌≡◌, sym, ◌∙◌, ap}
use mathlib.Core.Logic.{◌⊎◌, inl, inr}
use mathlib.Core.List.{List, [], ◌∷◌}
use Prim.Native.Nat.{ℕ, zero, suc, ◌≤◌}
use native.Mathlib.Omega.{arith}
use lib.ListN.{length}
use Rattle.field.specs.declared.sign.Sign.{Sign}
use Rattle.field.specs.declared.sign.Sign.TheVariants.{Zero}
use Rattle.field.specs.Field.{RealClosedField, horner}
use Rattle.field.specs.Order.{NotZero, To}
use Rattle.field.proofs.Ring.{ring, mul_zero, add_zero}
use Rattle.field.proofs.Signs.{decide-sign, not_zero_apart}
use Rattle.field.proofs.Order.{to_trans, between, no_zero_divisors, zero_sign, sign_of_zero}
use Rattle.roots.specs.Value.{value, quotient, leading}
use Rattle.roots.specs.Interval.{End, Inside, Ordered}
use Rattle.roots.specs.Analysis.{ValueSign}
use Rattle.roots.proofs.Quotient.{no_room, value_none, value_cons, quotient-shorter}
use Rattle.roots.proofs.FirstRoot.{value_at_root}
use Rattle.roots.proofs.Inside.{bounded_part, part-inside}

module _ {R : Type 0} (f : RealClosedField R) where
  open f use {zero as 𝟘, add as ◌+◌, mul as ◌*◌, neg as -◌, sign}

  infixl 60 ◌+◌
  infixl 70 ◌*◌
  infix 80 -◌
  -- the factor x - y is not zero after y
  quotient_zero : (e : Sign) → NotZero e → (cs : List R) (y x : R) → value f cs y ≡ 𝟘 → To f e y x → value f cs x ≡ 𝟘 → value f (quotient f y cs) x ≡ 𝟘
  quotient_zero e n cs y x at_y y-x at_x = go (no_zero_divisors f (x + - y) (value f (quotient f y cs) x) (sym (value_at_root f cs y x at_y) ∙ at_x))
    where
      go : (x + - y ≡ 𝟘) ⊎ (value f (quotient f y cs) x ≡ 𝟘) → value f (quotient f y cs) x ≡ 𝟘
      go (inl p) = absurd (not_zero_apart e n (sym y-x ∙ zero_sign f (x + - y) p))
      go (inr p) = p

  zero_within : (k : ℕ) (e : Sign) → NotZero e → (cs : List R) → length cs ≤ k → (a b : R) → To f e a b →
      ((x : R) → To f e a x → To f e x b → value f cs x ≡ 𝟘) → (x : R) → value f cs x ≡ 𝟘
  zero_within k e n [] h a b a-b zeros x = value_none f x
  zero_within zero e n (c ∷ cs) h a b a-b zeros x = absurd (no_room c cs h)
  zero_within (suc k) e n (c ∷ cs) h a b a-b zeros x =
      let (y, a_y, y-b) = between f e a b a-b in
      let q : List R = quotient f y (c ∷ cs) in
      let at_y : value f (c ∷ cs) y ≡ 𝟘 = zeros y a_y y-b in
      let at_x : value f q x ≡ 𝟘 =
      zero_within k e n (quotient f y (c ∷ cs)) (quotient-shorter f k y (c ∷ cs) h) y b y-b
      (λ z y-z z-b. quotient_zero e n (c ∷ cs) y z at_y y-z (zeros z (to_trans f e a y z a_y y-z) z-b)) x in
      value_at_root f (c ∷ cs) y x at_y ∙ ap (λ w. (x + - y) * w) at_x ∙ mul_zero f (x + - y)

  pub zero_everywhere : (e : Sign) → NotZero e → (cs : List R) (l r : End R) → Ordered f e l r → ValueSign f e Zero cs l r → (x : R) → value f cs x ≡ 𝟘
  zero_everywhere e n cs l r o zeros =
      let (a, b, a-b, p, q) = bounded_part f e l r o in
      zero_within (length cs) e n cs (omega arith) a b a-b (λ x a_x x-b. f.sign_zero (value f cs x) (zeros x (part-inside f e l r a b x p q a_x x-b)))

  leading_quotient : (y c d : R) (ds : List R) → leading f (quotient f y (c ∷ (d ∷ ds))) ≡ leading f (c ∷ (d ∷ ds))
  unfolding horner quotient leading
  leading_quotient y c d [] = simp ring
  leading_quotient y c d (g ∷ gs) = leading_quotient y d g gs

  not_zero_within : (k : ℕ) (e : Sign) → NotZero e → (cs : List R) → length cs ≤ k → (sign (leading f cs) ≡ Zero → ⊥) → (a b : R) → To f e a b →
      (x : R) × To f e a x × To f e x b × (sign (value f cs x) ≡ Zero → ⊥)
  unfolding leading
  not_zero_within k e n [] h lead a b a-b = absurd (lead (sign_of_zero f))
  not_zero_within k e n (c ∷ []) h lead a b a-b =
      let (y, a_y, y-b) = between f e a b a-b in
      let only : value f (c ∷ []) y ≡ c = value_cons f c [] y ∙ ap (λ w. c + w) (ap (λ w. y * w) (value_none f y) ∙ mul_zero f y) ∙ add_zero f c in
      (y, a_y, y-b, λ z. lead (sym (ap sign only) ∙ z))
  not_zero_within zero e n (c ∷ (d ∷ ds)) h lead a b a-b = absurd (no_room c (d ∷ ds) h)
  not_zero_within (suc k) e n (c ∷ (d ∷ ds)) h lead a b a-b =
      let (y, a_y, y-b) = between f e a b a-b in
      go y a_y y-b (decide-sign (sign (value f (c ∷ (d ∷ ds)) y)) Zero)
      (not_zero_within k e n (quotient f y (c ∷ (d ∷ ds))) (quotient-shorter f k y (c ∷ (d ∷ ds)) h) (λ z. lead (sym (ap sign (leading_quotient y c d ds)) ∙ z)) y b y-b)
    where
      -- a place in the middle; if p is zero there, one after it where the quotient is not zero
      go : (y : R) → To f e a y → To f e y b → Dec (sign (value f (c ∷ (d ∷ ds)) y) ≡ Zero) →
          (x : R) × To f e y x × To f e x b × (sign (value f (quotient f y (c ∷ (d ∷ ds))) x) ≡ Zero → ⊥) →
          (x : R) × To f e a x × To f e x b × (sign (value f (c ∷ (d ∷ ds)) x) ≡ Zero → ⊥)
      go y a_y y-b (no other) after = (y, a_y, y-b, other)
      go y a_y y-b (yes z) (x, y-x, x-b, other) = (
        x,
        to_trans f e a y x a_y y-x,
        x-b,
        λ at_x. other (zero_sign f (value f (quotient f y (c ∷ (d ∷ ds))) x)
            (quotient_zero e n (c ∷ (d ∷ ds)) y x (f.sign_zero (value f (c ∷ (d ∷ ds)) y) z) y-x (f.sign_zero (value f (c ∷ (d ∷ ds)) x) at_x))),
      )

  pub not_zero_somewhere : (e : Sign) → NotZero e → (cs : List R) (l r : End R) → Ordered f e l r → (sign (leading f cs) ≡ Zero → ⊥) →
      (x : R) × Inside f e l r x × (sign (value f cs x) ≡ Zero → ⊥)
  not_zero_somewhere e n cs l r o lead =
      let (a, b, a-b, p, q) = bounded_part f e l r o in
      let (x, a_x, x-b, other) = not_zero_within (length cs) e n cs (omega arith) lead a b a-b in
      (x, part-inside f e l r a b x p q a_x x-b, other)
