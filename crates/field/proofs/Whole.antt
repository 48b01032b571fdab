-- Whole numbers in a field: a homomorphism of rings that keeps signs.
use mathlib.Core.Path.{◌≡◌, refl, sym, ◌∙◌, ap}
use mathlib.Core.Bool.{Bool, true, false, not, cond}
use Prim.Native.Nat as Nat
use Prim.Native.Nat.{ℕ, zero, suc, ◌≤◌, ◌<◌}
use native.Mathlib.Omega.{arith}
use lib.IntN.{ℤ, pos, negsuc, neg_ℤ, sub_ℕ, ◌+ℤ◌, ◌*ℤ◌}
use lib.Dec.{T, ltb, ltb→lt, nltb→le, eqb-suc-zero}
use Rattle.field.specs.declared.sign.Sign.TheVariants.{Zero, Pos}
use Rattle.field.specs.Sign.{sign_of}
use Rattle.field.specs.Field.{RealClosedField}
use Rattle.field.specs.Sentence.{natural, integer}
use Rattle.field.proofs.Ring.{ring, zero_add, zero_mul, neg_zero, mul_neg, neg_mul}
use Rattle.field.proofs.Order.{sign_of_zero, sign-neg_of}

-- the two cases of `cond`
on_cond : {A : Type 0} (c : Bool) (x y : A) (P : A → Type 0) → (T c → P x) → (T (not c) → P y) → P (cond c x y)
on_cond true x y P yes-case no-case = yes-case tt
on_cond false x y P yes-case no-case = no-case tt

module _ {R : Type 0} (f : RealClosedField R) where
  open f use {zero as 𝟘, one as 𝟙, add as ◌+◌, mul as ◌*◌, neg as -◌, sign}

  infixl 60 ◌+◌
  infixl 70 ◌*◌
  infix 80 -◌
  pub natural_zero : natural f 0 ≡ 𝟘
  unfolding natural
  natural_zero = refl

  pub natural-suc : (n : ℕ) → natural f (suc n) ≡ 𝟙 + natural f n
  unfolding natural
  natural-suc n = refl

  pub natural-add : (m n : ℕ) → natural f (Nat.◌+◌ m n) ≡ natural f m + natural f n
  natural-add zero n =
      let e : Nat.◌+◌ 0 n ≡ n = omega arith in
      ap (natural f) e ∙ sym (zero_add f (natural f n)) ∙ ap (λ w. w + natural f n) (sym natural_zero)
  natural-add (suc m) n =
      let e : Nat.◌+◌ (suc m) n ≡ suc (Nat.◌+◌ m n) = omega arith in
      let g : (u v w : R) → u + (v + w) ≡ (u + v) + w = λ u v w. simp ring in
      ap (natural f) e ∙ natural-suc (Nat.◌+◌ m n) ∙ ap (λ w. 𝟙 + w) (natural-add m n) ∙ g 𝟙 (natural f m) (natural f n) ∙ ap (λ w. w + natural f n) (sym (natural-suc m))

  pub natural-mul : (m n : ℕ) → natural f (Nat.◌*◌ m n) ≡ natural f m * natural f n
  natural-mul zero n =
      let e : Nat.◌*◌ 0 n ≡ 0 = omega arith in
      ap (natural f) e ∙ natural_zero ∙ sym (zero_mul f (natural f n)) ∙ ap (λ w. w * natural f n) (sym natural_zero)
  natural-mul (suc m) n =
      let e : Nat.◌*◌ (suc m) n ≡ Nat.◌+◌ n (Nat.◌*◌ m n) = omega arith in
      let g : (u v : R) → u + v * u ≡ (𝟙 + v) * u = λ u v. simp ring in
      ap (natural f) e ∙ natural-add n (Nat.◌*◌ m n) ∙ ap (λ w. natural f n + w) (natural-mul m n) ∙ g (natural f n) (natural f m) ∙ ap (λ w. w * natural f n) (sym (natural-suc m))

  pub sign-natural : (n : ℕ) → sign (natural f (suc n)) ≡ Pos
  sign-natural zero =
      let g : (u : R) → u + 𝟘 ≡ u = λ u. simp ring in
      ap sign (natural-suc 0 ∙ ap (λ w. 𝟙 + w) natural_zero ∙ g 𝟙) ∙ f.sign_one
  sign-natural (suc n) = ap sign (natural-suc (suc n)) ∙ f.sign_add 𝟙 (natural f (suc n)) f.sign_one (sign-natural n)

  -- the difference of two natural numbers
  pub natural_sub : (m n : ℕ) → n ≤ m → natural f (Nat.◌-◌ m n) ≡ natural f m + - natural f n
  natural_sub m n h =
      let e : Nat.◌+◌ n (Nat.◌-◌ m n) ≡ m = omega arith in
      let g : (u v : R) → v ≡ (u + v) + - u = λ u v. simp ring in
      g (natural f n) (natural f (Nat.◌-◌ m n)) ∙ ap (λ w. w + - natural f n) (sym (natural-add n (Nat.◌-◌ m n)) ∙ ap (natural f) e)

  pub integer_sub : (m n : ℕ) → integer f (sub_ℕ m n) ≡ natural f m + - natural f n
  integer_sub m n = on_cond (ltb m n) (negsuc (Nat.◌-◌ n (suc m))) (pos (Nat.◌-◌ m n)) (λ z. integer f z ≡ natural f m + - natural f n)
      (λ t. below (ltb→lt m n t)) (λ t. natural_sub m n (nltb→le m n t))
    where
      below : m < n → - natural f (suc (Nat.◌-◌ n (suc m))) ≡ natural f m + - natural f n
      below h =
          let e : suc (Nat.◌-◌ n (suc m)) ≡ Nat.◌-◌ n m = omega arith in
          let k : m ≤ n = omega arith in
          let g : (u v : R) → - (u + - v) ≡ v + - u = λ u v. simp ring in
          ap (λ i. - natural f i) e ∙ ap -◌ (natural_sub n m k) ∙ g (natural f n) (natural f m)

  pub integer_neg : (z : ℤ) → integer f (neg_ℤ z) ≡ - integer f z
  integer_neg (pos zero) = natural_zero ∙ sym (neg_zero f) ∙ ap -◌ (sym natural_zero)
  integer_neg (pos (suc n)) = refl
  integer_neg (negsuc n) =
      let g : (u : R) → u ≡ - (- u) = λ u. simp ring in
      g (natural f (suc n))

  pub integer_add : (y z : ℤ) → integer f (y +ℤ z) ≡ integer f y + integer f z
  integer_add (pos a) (pos b) = natural-add a b
  integer_add (pos a) (negsuc b) = integer_sub a (suc b)
  integer_add (negsuc a) (pos b) = integer_sub b (suc a) ∙ f.add_comm (natural f b) (- natural f (suc a))
  integer_add (negsuc a) (negsuc b) =
      let e : suc (suc (Nat.◌+◌ a b)) ≡ Nat.◌+◌ (suc a) (suc b) = omega arith in
      let g : (u v : R) → - (u + v) ≡ - u + - v = λ u v. simp ring in
      ap (λ i. - natural f i) e ∙ ap -◌ (natural-add (suc a) (suc b)) ∙ g (natural f (suc a)) (natural f (suc b))

  pub integer_mul : (y z : ℤ) → integer f (y *ℤ z) ≡ integer f y * integer f z
  integer_mul (pos a) (pos b) = natural-mul a b
  integer_mul (pos a) (negsuc b) = integer_neg (pos (Nat.◌*◌ a (suc b))) ∙ ap -◌ (natural-mul a (suc b)) ∙ sym (mul_neg f (natural f a) (natural f (suc b)))
  integer_mul (negsuc a) (pos b) = integer_neg (pos (Nat.◌*◌ (suc a) b)) ∙ ap -◌ (natural-mul (suc a) b) ∙ sym (neg_mul f (natural f (suc a)) (natural f b))
  integer_mul (negsuc a) (negsuc b) =
      let g : (u v : R) → u * v ≡ - u * - v = λ u v. simp ring in
      natural-mul (suc a) (suc b) ∙ g (natural f (suc a)) (natural f (suc b))

  pub sign_integer : (z : ℤ) → sign (integer f z) ≡ sign_of z
  sign_integer (pos zero) = ap sign natural_zero ∙ sign_of_zero f
  sign_integer (pos (suc n)) = sign-natural n ∙ sym (ap (λ b. cond b Zero Pos) (eqb-suc-zero n))
  sign_integer (negsuc n) = sign-neg_of f Pos (natural f (suc n)) (sign-natural n)
