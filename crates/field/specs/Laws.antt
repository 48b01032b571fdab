-- The laws of a real closed field that later layers use, gathered: as a ring, as an order, and of the whole numbers in it. Assumes nothing.
use Rattle.std.specs.Prelude.{◌≡◌, ◌⊎◌, ℤ, neg_ℤ, ◌+ℤ◌, ◌*ℤ◌}
use Rattle.field.specs.declared.sign.Sign.{Sign}
use Rattle.field.specs.declared.sign.Sign.TheVariants.{Zero, Pos}
use Rattle.field.specs.Sign.{flip, times, sign_of}
use Rattle.field.specs.Field.{RealClosedField}
use Rattle.field.specs.Order.{NotZero, To}
use Rattle.field.specs.Sentence.{integer}

module _ {R : Type 0} (f : RealClosedField R) where
  open f use {zero as 𝟘, one as 𝟙, add as ◌+◌, mul as ◌*◌, neg as -◌, inv, sign}

  infixl 60 ◌+◌
  infixl 70 ◌*◌
  infix 80 -◌
  pub record RingLaws : Type 0 where
    pub zero_add : (x : R) → 𝟘 + x ≡ x
    pub one_mul : (x : R) → 𝟙 * x ≡ x
    pub add_mul : (x y z : R) → (x + y) * z ≡ x * z + y * z
    pub mul_zero : (x : R) → x * 𝟘 ≡ 𝟘
    pub neg_neg : (x : R) → - (- x) ≡ x
    pub neg_add : (x y : R) → - (x + y) ≡ - x + - y
    pub mul_neg : (x y : R) → x * - y ≡ - (x * y)
    pub neg_mul : (x y : R) → - x * y ≡ - (x * y)
    pub add_cancel : (x y z : R) → x + y ≡ x + z → y ≡ z
    pub no_zero_divisors : (x y : R) → x * y ≡ 𝟘 → (x ≡ 𝟘) ⊎ (y ≡ 𝟘)

  -- To f e a b: b - a has the sign e, so a < b is To f Pos a b
  pub record OrderLaws : Type 0 where
    pub sign_of_zero : sign 𝟘 ≡ Zero
    pub sign_add_same : (s : Sign) (x y : R) → sign x ≡ s → sign y ≡ s → sign (x + y) ≡ s
    pub sign_add_weak : (s : Sign) → NotZero s → (x y : R) → sign x ≡ s → (sign y ≡ flip s → ⊥) → sign (x + y) ≡ s
    pub sign_inv : (x : R) → (sign x ≡ Zero → ⊥) → sign (inv x) ≡ sign x
    pub sign_square : (x : R) → (sign x ≡ Zero → ⊥) → sign (x * x) ≡ Pos
    pub equal_iff : (a b : R) → (To f Zero a b → a ≡ b) × (a ≡ b → To f Zero a b)
    pub turn : (e : Sign) (a b : R) → To f e a b → To f (flip e) b a
    pub trans : (e : Sign) (a b c : R) → To f e a b → To f e b c → To f e a c
    pub trichotomy : (a b : R) → (To f Pos a b) ⊎ ((a ≡ b) ⊎ (To f Pos b a))
    pub add_both : (e : Sign) (a b x : R) → To f e a b → To f e (x + a) (x + b)
    pub mul_both : (s e : Sign) (a b x : R) → sign x ≡ s → To f e a b → To f (times s e) (x * a) (x * b)
    -- a number between two others, one beyond any number, one beyond two
    pub between : (e : Sign) (a b : R) → To f e a b → (c : R) × To f e a c × To f e c b
    pub beyond : (e : Sign) (a : R) → (b : R) × To f e a b
    pub beyond_both : (e : Sign) → NotZero e → (a b : R) → (c : R) × To f e a c × To f e b c

  pub record WholeLaws : Type 0 where
    pub integer_add : (y z : ℤ) → integer f (y +ℤ z) ≡ integer f y + integer f z
    pub integer_mul : (y z : ℤ) → integer f (y *ℤ z) ≡ integer f y * integer f z
    pub integer_neg : (z : ℤ) → integer f (neg_ℤ z) ≡ - integer f z
    pub sign_integer : (z : ℤ) → sign (integer f z) ≡ sign_of z

abbrev pub FieldLaws : {R : Type 0} → RealClosedField R → Type 0
FieldLaws f = RingLaws f × OrderLaws f × WholeLaws f
