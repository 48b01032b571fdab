-- Ordered-field laws: signs of sums, products and inverses, the order in either direction, numbers between and beyond.
use mathlib.Core.Path.{◌≡◌, refl, sym, ◌∙◌, ap, ap₂, subst}
use mathlib.Core.Logic.{◌⊎◌, inl, inr}
use Rattle.field.specs.declared.sign.Sign.{Sign}
use Rattle.field.specs.declared.sign.Sign.TheVariants.{Neg, Zero, Pos}
use Rattle.field.specs.Sign.{flip, times}
use Rattle.field.specs.Field.{RealClosedField}
use Rattle.field.specs.Order.{NotZero, To}
use Rattle.field.proofs.Signs.{same, decide-sign, not_zero, not_zero_apart, flip-flip, times-pos, times-times, times_self}
use Rattle.field.proofs.Ring.{ring, add_zero, neg_zero}

module _ {R : Type 0} (f : RealClosedField R) where
  open f use {zero as 𝟘, one as 𝟙, add as ◌+◌, mul as ◌*◌, neg as -◌, inv, sign}

  infixl 60 ◌+◌
  infixl 70 ◌*◌
  infix 80 -◌
  -- signs of numbers
  pub sign_of_zero : sign 𝟘 ≡ Zero
  sign_of_zero = go (sign 𝟘) refl
    where
      turned : sign 𝟘 ≡ flip (sign 𝟘)
      turned = sym (ap sign (neg_zero f)) ∙ f.sign_neg 𝟘

      go : (s : Sign) → sign 𝟘 ≡ s → s ≡ Zero
      go Neg e = absurd (same (sym e ∙ turned ∙ ap flip e))
      go Zero e = refl
      go Pos e = absurd (same (sym e ∙ turned ∙ ap flip e))

  pub zero_sign : (x : R) → x ≡ 𝟘 → sign x ≡ Zero
  zero_sign x p = ap sign p ∙ sign_of_zero

  pub sign-neg_of : (s : Sign) (x : R) → sign x ≡ s → sign (- x) ≡ flip s
  sign-neg_of s x p = f.sign_neg x ∙ ap flip p

  pub sign-mul_of : (s t : Sign) (x y : R) → sign x ≡ s → sign y ≡ t → sign (x * y) ≡ times s t
  sign-mul_of s t x y p q = f.sign_mul x y ∙ ap₂ times p q

  -- a number that is zero does not count in a sum
  pub sign-add_zero : (x y : R) → sign y ≡ Zero → sign (x + y) ≡ sign x
  sign-add_zero x y p = ap sign (ap (λ w. x + w) (f.sign_zero y p) ∙ add_zero f x)

  -- the sum of two numbers of one sign has that sign
  pub sign_add_same : (s : Sign) (x y : R) → sign x ≡ s → sign y ≡ s → sign (x + y) ≡ s
  sign_add_same Pos x y p q = f.sign_add x y p q
  sign_add_same Zero x y p q = sign-add_zero x y q ∙ p
  sign_add_same Neg x y p q =
      let turned : sign (- x + - y) ≡ Pos = f.sign_add (- x) (- y) (sign-neg_of Neg x p) (sign-neg_of Neg y q) in
      let e : - (- x + - y) ≡ x + y = simp ring in
      sym (ap sign e) ∙ sign-neg_of Pos (- x + - y) turned

  -- and so it has where the second is zero or of the same sign
  pub sign_add_weak : (s : Sign) → NotZero s → (x y : R) → sign x ≡ s → (sign y ≡ flip s → ⊥) → sign (x + y) ≡ s
  sign_add_weak s n x y p q = go s (sign y) n refl p q
    where
      go : (s t : Sign) → NotZero s → sign y ≡ t → sign x ≡ s → (sign y ≡ flip s → ⊥) → sign (x + y) ≡ s
      go Neg Neg n e p q = sign_add_same Neg x y p e
      go Neg Zero n e p q = sign-add_zero x y e ∙ p
      go Neg Pos n e p q = absurd (q e)
      go Zero t n e p q = absurd n
      go Pos Neg n e p q = absurd (q e)
      go Pos Zero n e p q = sign-add_zero x y e ∙ p
      go Pos Pos n e p q = sign_add_same Pos x y p e

  pub one_not_zero : sign 𝟙 ≡ Zero → ⊥
  one_not_zero p = same (sym f.sign_one ∙ p)

  pub sign-two : sign (𝟙 + 𝟙) ≡ Pos
  sign-two = f.sign_add 𝟙 𝟙 f.sign_one f.sign_one

  pub two_not_zero : sign (𝟙 + 𝟙) ≡ Zero → ⊥
  two_not_zero p = same (sym sign-two ∙ p)

  pub sign_square : (x : R) → (sign x ≡ Zero → ⊥) → sign (x * x) ≡ Pos
  sign_square x n = f.sign_mul x x ∙ times_self (sign x) (not_zero (sign x) n)

  pub sign_inv : (x : R) → (sign x ≡ Zero → ⊥) → sign (inv x) ≡ sign x
  sign_inv x n =
      let product : times (sign x) (sign (inv x)) ≡ Pos = sym (f.sign_mul x (inv x)) ∙ ap sign (f.mul_inv x n) ∙ f.sign_one in
      sym (times-times (sign x) (sign (inv x)) (not_zero (sign x) n)) ∙ ap (times (sign x)) product ∙ times-pos (sign x)

  pub mul_inv_cancel : (x y : R) → (sign x ≡ Zero → ⊥) → (y * inv x) * x ≡ y
  mul_inv_cancel x y n =
      let swap : (v : R) → (y * v) * x ≡ y * (x * v) = λ v. simp ring in
      swap (inv x) ∙ ap (λ w. y * w) (f.mul_inv x n) ∙ f.mul_one y

  pub no_zero_divisors : (x y : R) → x * y ≡ 𝟘 → (x ≡ 𝟘) ⊎ (y ≡ 𝟘)
  no_zero_divisors x y p = go (sign x) (sign y) refl refl
    where
      go : (s t : Sign) → sign x ≡ s → sign y ≡ t → (x ≡ 𝟘) ⊎ (y ≡ 𝟘)
      go Zero t e d = inl (f.sign_zero x e)
      go Neg Zero e d = inr (f.sign_zero y d)
      go Neg Neg e d = absurd (same (sym (sign-mul_of Neg Neg x y e d) ∙ zero_sign (x * y) p))
      go Neg Pos e d = absurd (same (sym (sign-mul_of Neg Pos x y e d) ∙ zero_sign (x * y) p))
      go Pos Zero e d = inr (f.sign_zero y d)
      go Pos Neg e d = absurd (same (sym (sign-mul_of Pos Neg x y e d) ∙ zero_sign (x * y) p))
      go Pos Pos e d = absurd (same (sym (sign-mul_of Pos Pos x y e d) ∙ zero_sign (x * y) p))

  -- the order: To e a b says that b - a has the sign e
  pub to_self : (a : R) → To f Zero a a
  to_self a = ap sign (f.add_neg a) ∙ sign_of_zero

  pub to_zero : (a b : R) → To f Zero a b → a ≡ b
  to_zero a b p =
      let e : a + (b + - a) ≡ b = simp ring in
      sym (add_zero f a) ∙ ap (λ w. a + w) (sym (f.sign_zero (b + - a) p)) ∙ e

  pub equal_to : (a b : R) → a ≡ b → To f Zero a b
  equal_to a b p = subst (λ w. To f Zero a w) p (to_self a)

  pub to_turn : (e : Sign) (a b : R) → To f e a b → To f (flip e) b a
  to_turn e a b p =
      let d : - (b + - a) ≡ a + - b = simp ring in
      sym (ap sign d) ∙ sign-neg_of e (b + - a) p

  pub to_trans : (e : Sign) (a b c : R) → To f e a b → To f e b c → To f e a c
  to_trans e a b c p q =
      let d : (b + - a) + (c + - b) ≡ c + - a = simp ring in
      sym (ap sign d) ∙ sign_add_same e (b + - a) (c + - b) p q

  -- c is not behind b in the direction e
  pub to_trans_weak : (e : Sign) → NotZero e → (a b c : R) → To f e a b → (To f (flip e) b c → ⊥) → To f e a c
  to_trans_weak e n a b c p q =
      let d : (b + - a) + (c + - b) ≡ c + - a = simp ring in
      sym (ap sign d) ∙ sign_add_weak e n (b + - a) (c + - b) p q

  pub to_weak_trans : (e : Sign) → NotZero e → (a b c : R) → (To f (flip e) a b → ⊥) → To f e b c → To f e a c
  to_weak_trans e n a b c p q =
      let d : (c + - b) + (b + - a) ≡ c + - a = simp ring in
      sym (ap sign d) ∙ sign_add_weak e n (c + - b) (b + - a) q p

  pub to_apart : (e : Sign) → NotZero e → (a b : R) → To f e a b → a ≡ b → ⊥
  to_apart e n a b p q = not_zero_apart e n (sym p ∙ equal_to a b q)

  pub trichotomy : (a b : R) → (To f Pos a b) ⊎ ((a ≡ b) ⊎ (To f Pos b a))
  trichotomy a b = go (sign (b + - a)) refl
    where
      go : (s : Sign) → To f s a b → (To f Pos a b) ⊎ ((a ≡ b) ⊎ (To f Pos b a))
      go Neg p = inr (inr (to_turn Neg a b p))
      go Zero p = inr (inl (to_zero a b p))
      go Pos p = inl p

  pub to_add : (e : Sign) (a b x : R) → To f e a b → To f e (x + a) (x + b)
  to_add e a b x p =
      let d : b + - a ≡ (x + b) + - (x + a) = simp ring in
      sym (ap sign d) ∙ p

  pub to_mul : (s e : Sign) (a b x : R) → sign x ≡ s → To f e a b → To f (times s e) (x * a) (x * b)
  to_mul s e a b x p q =
      let d : x * (b + - a) ≡ x * b + - (x * a) = simp ring in
      sym (ap sign d) ∙ sign-mul_of s e x (b + - a) p q

  pub from_zero : (e : Sign) (x : R) → To f e 𝟘 x → sign x ≡ e
  from_zero e x p =
      let d : x + - 𝟘 ≡ x = simp ring in
      sym (ap sign d) ∙ p

  pub to_from_zero : (e : Sign) (x : R) → sign x ≡ e → To f e 𝟘 x
  to_from_zero e x p =
      let d : x + - 𝟘 ≡ x = simp ring in
      ap sign d ∙ p

  -- one in the direction e
  abbrev pub unit : Sign → R
  unit Neg = - 𝟙
  unit Zero = 𝟘
  unit Pos = 𝟙

  pub sign_unit : (e : Sign) → sign (unit e) ≡ e
  sign_unit Neg = sign-neg_of Pos 𝟙 f.sign_one
  sign_unit Zero = sign_of_zero
  sign_unit Pos = f.sign_one

  pub unit_square : (e : Sign) → NotZero e → unit e * unit e ≡ 𝟙
  unit_square Neg n = simp ring
  unit_square Zero n = absurd n
  unit_square Pos n = simp ring

  -- numbers beyond and between
  pub beyond : (e : Sign) (a : R) → (b : R) × To f e a b
  beyond e a =
      let d : (u : R) → (a + u) + - a ≡ u = λ u. simp ring in
      (a + unit e, ap sign (d (unit e)) ∙ sign_unit e)

  pub beyond_both : (e : Sign) → NotZero e → (a b : R) → (c : R) × To f e a c × To f e b c
  beyond_both e n a b = go (decide-sign (sign (b + - a)) e)
    where
      go : Dec (To f e a b) → (c : R) × To f e a c × To f e b c
      go (yes p) = let (c, q) = beyond e b in (c, to_trans e a b c p q, q)
      go (no p) =
          let (c, q) = beyond e a in
          let ahead : To f (flip e) b a → ⊥ = λ t. p (subst (λ s. To f s a b) (flip-flip e) (to_turn (flip e) b a t)) in
          (c, q, to_weak_trans e n b a c ahead q)

  half : R
  half = inv (𝟙 + 𝟙)

  pub midpoint : R → R → R
  midpoint a b = (a + b) * half

  sign_half : sign half ≡ Pos
  unfolding half
  sign_half = sign_inv (𝟙 + 𝟙) two_not_zero ∙ sign-two

  half_and_half : (a : R) → a ≡ a * (half + half)
  unfolding half
  half_and_half a =
      let d : (h : R) → (𝟙 + 𝟙) * h ≡ h + h = λ h. simp ring in
      sym (f.mul_one a) ∙ ap (λ w. a * w) (sym (f.mul_inv (𝟙 + 𝟙) two_not_zero) ∙ d half)

  pub between : (e : Sign) (a b : R) → To f e a b → (c : R) × To f e a c × To f e c b
  unfolding midpoint
  between e a b p =
      let first : (h : R) → (a + b) * h + - (a * (h + h)) ≡ (b + - a) * h = λ h. simp ring in
      let second : (h : R) → b * (h + h) + - ((a + b) * h) ≡ (b + - a) * h = λ h. simp ring in
      let sign-of-half : sign ((b + - a) * half) ≡ e = sign-mul_of e Pos (b + - a) half p sign_half ∙ times-pos e in
      let mid : R = (a + b) * half in (
        mid,
        ap sign (ap (λ w. mid + - w) (half_and_half a) ∙ first half) ∙ sign-of-half,
        ap sign (ap (λ w. w + - mid) (half_and_half b) ∙ second half) ∙ sign-of-half,
      )
