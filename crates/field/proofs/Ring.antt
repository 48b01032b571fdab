-- The laws of a real closed field as a commutative ring, and `ring`, the set of rules by which `simp ring` proves ring identities.
-- Use: `use Rattle.field.proofs.Ring.{ring}`, then `simp ring` at x ≡ y over any f; state stuck terms as variables first, as
-- `let g : (v w : R) → (v + w) + - v ≡ w = λ v w. simp ring in g (value cs a) b`. Each lemma takes the field f first.
use mathlib.Core.Path.{◌≡◌, sym, ◌∙◌, ap, ap₂}
use Rattle.field.specs.Field.{RealClosedField}

module _ {R : Type 0} (f : RealClosedField R) where
  open f use {zero as 𝟘, one as 𝟙, add as ◌+◌, mul as ◌*◌, neg as -◌}

  infixl 60 ◌+◌
  infixl 70 ◌*◌
  infix 80 -◌
  pub add_assoc : (x y z : R) → (x + y) + z ≡ x + (y + z)
  add_assoc = f.add_assoc

  pub add_comm : (x y : R) → x + y ≡ y + x
  add_comm = f.add_comm

  pub add_zero : (x : R) → x + 𝟘 ≡ x
  add_zero = f.add_zero

  pub zero_add : (x : R) → 𝟘 + x ≡ x
  zero_add x = add_comm 𝟘 x ∙ add_zero x

  pub add_left_comm : (x y z : R) → x + (y + z) ≡ y + (x + z)
  add_left_comm x y z = sym (add_assoc x y z) ∙ ap (λ w. w + z) (add_comm x y) ∙ add_assoc y x z

  pub mul_assoc : (x y z : R) → (x * y) * z ≡ x * (y * z)
  mul_assoc = f.mul_assoc

  pub mul_comm : (x y : R) → x * y ≡ y * x
  mul_comm = f.mul_comm

  pub mul_left_comm : (x y z : R) → x * (y * z) ≡ y * (x * z)
  mul_left_comm x y z = sym (mul_assoc x y z) ∙ ap (λ w. w * z) (mul_comm x y) ∙ mul_assoc y x z

  pub mul_one : (x : R) → x * 𝟙 ≡ x
  mul_one = f.mul_one

  pub one_mul : (x : R) → 𝟙 * x ≡ x
  one_mul x = mul_comm 𝟙 x ∙ mul_one x

  pub mul_add : (x y z : R) → x * (y + z) ≡ x * y + x * z
  mul_add = f.mul_add

  pub add_mul : (x y z : R) → (x + y) * z ≡ x * z + y * z
  add_mul x y z = mul_comm (x + y) z ∙ mul_add z x y ∙ ap₂ ◌+◌ (mul_comm z x) (mul_comm z y)

  -- x and its negative cancel, in either order, alone or before a sum
  pub add_neg : (x : R) → x + - x ≡ 𝟘
  add_neg = f.add_neg

  pub neg-add_self : (x : R) → - x + x ≡ 𝟘
  neg-add_self x = add_comm (- x) x ∙ add_neg x

  pub add-neg-add : (x z : R) → x + (- x + z) ≡ z
  add-neg-add x z = sym (add_assoc x (- x) z) ∙ ap (λ w. w + z) (add_neg x) ∙ zero_add z

  pub neg-add-add : (x z : R) → - x + (x + z) ≡ z
  neg-add-add x z = sym (add_assoc (- x) x z) ∙ ap (λ w. w + z) (neg-add_self x) ∙ zero_add z

  pub add_cancel : (x y z : R) → x + y ≡ x + z → y ≡ z
  add_cancel x y z p = sym (neg-add-add x y) ∙ ap (λ w. - x + w) p ∙ neg-add-add x z

  pub neg_unique : (x y : R) → x + y ≡ 𝟘 → y ≡ - x
  neg_unique x y p = add_cancel x y (- x) (p ∙ sym (add_neg x))

  pub neg_zero : - 𝟘 ≡ 𝟘
  neg_zero = sym (neg_unique 𝟘 𝟘 (add_zero 𝟘))

  pub neg_neg : (x : R) → - (- x) ≡ x
  neg_neg x = sym (neg_unique (- x) x (neg-add_self x))

  pub neg_add : (x y : R) → - (x + y) ≡ - x + - y
  neg_add x y = sym (neg_unique (x + y) (- x + - y) (add_assoc x y (- x + - y) ∙ ap (λ w. x + w) (add_left_comm y (- x) (- y) ∙ ap (λ w. - x + w) (add_neg y) ∙ add_zero (- x)) ∙ add_neg x))

  pub mul_zero : (x : R) → x * 𝟘 ≡ 𝟘
  mul_zero x = add_cancel (x * 𝟘) (x * 𝟘) 𝟘 (sym (mul_add x 𝟘 𝟘) ∙ ap (λ w. x * w) (add_zero 𝟘) ∙ sym (add_zero (x * 𝟘)))

  pub zero_mul : (x : R) → 𝟘 * x ≡ 𝟘
  zero_mul x = mul_comm 𝟘 x ∙ mul_zero x

  pub mul_neg : (x y : R) → x * - y ≡ - (x * y)
  mul_neg x y = neg_unique (x * y) (x * - y) (sym (mul_add x y (- y)) ∙ ap (λ w. x * w) (add_neg y) ∙ mul_zero x)

  pub neg_mul : (x y : R) → - x * y ≡ - (x * y)
  neg_mul x y = mul_comm (- x) y ∙ mul_neg y x ∙ ap -◌ (mul_comm y x)

  -- x cancels with its negative over K terms between them; `last` where nothing follows

  pub skip1 : (x y1 z : R) → x + (y1 + (- x + z)) ≡ y1 + z
  skip1 x y1 z = add_left_comm x y1 (- x + z) ∙ ap (λ w. y1 + w) (add-neg-add x z)

  pub skip1_last : (x y1 : R) → x + (y1 + (- x)) ≡ y1
  skip1_last x y1 = add_left_comm x y1 (- x) ∙ ap (λ w. y1 + w) (add_neg x) ∙ add_zero y1

  pub skip2 : (x y1 y2 z : R) → x + (y1 + (y2 + (- x + z))) ≡ y1 + (y2 + z)
  skip2 x y1 y2 z = add_left_comm x y1 (y2 + (- x + z)) ∙ ap (λ w. y1 + w) (skip1 x y2 z)

  pub skip2_last : (x y1 y2 : R) → x + (y1 + (y2 + (- x))) ≡ y1 + y2
  skip2_last x y1 y2 = add_left_comm x y1 (y2 + (- x)) ∙ ap (λ w. y1 + w) (skip1_last x y2)

  pub skip3 : (x y1 y2 y3 z : R) → x + (y1 + (y2 + (y3 + (- x + z)))) ≡ y1 + (y2 + (y3 + z))
  skip3 x y1 y2 y3 z = add_left_comm x y1 (y2 + (y3 + (- x + z))) ∙ ap (λ w. y1 + w) (skip2 x y2 y3 z)

  pub skip3_last : (x y1 y2 y3 : R) → x + (y1 + (y2 + (y3 + (- x)))) ≡ y1 + (y2 + y3)
  skip3_last x y1 y2 y3 = add_left_comm x y1 (y2 + (y3 + (- x))) ∙ ap (λ w. y1 + w) (skip2_last x y2 y3)

  pub skip4 : (x y1 y2 y3 y4 z : R) → x + (y1 + (y2 + (y3 + (y4 + (- x + z))))) ≡ y1 + (y2 + (y3 + (y4 + z)))
  skip4 x y1 y2 y3 y4 z = add_left_comm x y1 (y2 + (y3 + (y4 + (- x + z)))) ∙ ap (λ w. y1 + w) (skip3 x y2 y3 y4 z)

  pub skip4_last : (x y1 y2 y3 y4 : R) → x + (y1 + (y2 + (y3 + (y4 + (- x))))) ≡ y1 + (y2 + (y3 + y4))
  skip4_last x y1 y2 y3 y4 = add_left_comm x y1 (y2 + (y3 + (y4 + (- x)))) ∙ ap (λ w. y1 + w) (skip3_last x y2 y3 y4)

  pub skip5 : (x y1 y2 y3 y4 y5 z : R) → x + (y1 + (y2 + (y3 + (y4 + (y5 + (- x + z)))))) ≡ y1 + (y2 + (y3 + (y4 + (y5 + z))))
  skip5 x y1 y2 y3 y4 y5 z = add_left_comm x y1 (y2 + (y3 + (y4 + (y5 + (- x + z))))) ∙ ap (λ w. y1 + w) (skip4 x y2 y3 y4 y5 z)

  pub skip5_last : (x y1 y2 y3 y4 y5 : R) → x + (y1 + (y2 + (y3 + (y4 + (y5 + (- x)))))) ≡ y1 + (y2 + (y3 + (y4 + y5)))
  skip5_last x y1 y2 y3 y4 y5 = add_left_comm x y1 (y2 + (y3 + (y4 + (y5 + (- x))))) ∙ ap (λ w. y1 + w) (skip4_last x y2 y3 y4 y5)

  pub skip6 : (x y1 y2 y3 y4 y5 y6 z : R) → x + (y1 + (y2 + (y3 + (y4 + (y5 + (y6 + (- x + z))))))) ≡ y1 + (y2 + (y3 + (y4 + (y5 + (y6 + z)))))
  skip6 x y1 y2 y3 y4 y5 y6 z = add_left_comm x y1 (y2 + (y3 + (y4 + (y5 + (y6 + (- x + z)))))) ∙ ap (λ w. y1 + w) (skip5 x y2 y3 y4 y5 y6 z)

  pub skip6_last : (x y1 y2 y3 y4 y5 y6 : R) → x + (y1 + (y2 + (y3 + (y4 + (y5 + (y6 + (- x))))))) ≡ y1 + (y2 + (y3 + (y4 + (y5 + y6))))
  skip6_last x y1 y2 y3 y4 y5 y6 = add_left_comm x y1 (y2 + (y3 + (y4 + (y5 + (y6 + (- x)))))) ∙ ap (λ w. y1 + w) (skip5_last x y2 y3 y4 y5 y6)

  pub skip7 : (x y1 y2 y3 y4 y5 y6 y7 z : R) → x + (y1 + (y2 + (y3 + (y4 + (y5 + (y6 + (y7 + (- x + z)))))))) ≡ y1 + (y2 + (y3 + (y4 + (y5 + (y6 + (y7 + z))))))
  skip7 x y1 y2 y3 y4 y5 y6 y7 z = add_left_comm x y1 (y2 + (y3 + (y4 + (y5 + (y6 + (y7 + (- x + z))))))) ∙ ap (λ w. y1 + w) (skip6 x y2 y3 y4 y5 y6 y7 z)

  pub skip7_last : (x y1 y2 y3 y4 y5 y6 y7 : R) → x + (y1 + (y2 + (y3 + (y4 + (y5 + (y6 + (y7 + (- x)))))))) ≡ y1 + (y2 + (y3 + (y4 + (y5 + (y6 + y7)))))
  skip7_last x y1 y2 y3 y4 y5 y6 y7 = add_left_comm x y1 (y2 + (y3 + (y4 + (y5 + (y6 + (y7 + (- x))))))) ∙ ap (λ w. y1 + w) (skip6_last x y2 y3 y4 y5 y6 y7)

pub ruleset ring = (add_zero, zero_add, mul_one, one_mul, mul_zero, zero_mul, neg_zero, neg_neg, neg_add, mul_neg, neg_mul, mul_add, add_mul, add_neg, neg-add_self, add-neg-add, neg-add-add, skip1, skip1_last, skip2, skip2_last, skip3, skip3_last, skip4, skip4_last, skip5, skip5_last, skip6, skip6_last, skip7, skip7_last, add_assoc, mul_assoc, add_comm, add_left_comm, mul_comm, mul_left_comm)
