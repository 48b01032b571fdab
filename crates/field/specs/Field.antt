-- Real closed fields over any type of numbers. Assumes nothing.
use Rattle.std.specs.Prelude.{◌≡◌, List, [], ◌∷◌}
use Rattle.field.specs.declared.sign.Sign.{Sign}
use Rattle.field.specs.declared.sign.Sign.TheVariants.{Neg, Zero, Pos}
use Rattle.field.specs.Sign.{flip, times}

-- the value at x of the polynomial with these coefficients, the lowest first, by Horner's rule; given are zero, the sum and the product
unfoldable pub horner : {R : Type 0} → R → (R → R → R) → (R → R → R) → List R → R → R
horner o plus by [] x = o
horner o plus by (c ∷ cs) x = plus c (by x (horner o plus by cs x))

-- An ordered field with the intermediate value property: a polynomial that is negative at a and positive at a larger b is zero at some c between.
-- The order is given by the sign of each number; a < b where b - a is positive. Nothing else about numbers is used.
pub record RealClosedField (R : Type 0) : Type 0 where
  pub zero : R
  pub one : R
  pub add : R → R → R
  pub mul : R → R → R
  pub neg : R → R
  pub inv : R → R
  pub sign : R → Sign
  pub add_assoc : (x y z : R) → add (add x y) z ≡ add x (add y z)
  pub add_comm : (x y : R) → add x y ≡ add y x
  pub add_zero : (x : R) → add x zero ≡ x
  pub add_neg : (x : R) → add x (neg x) ≡ zero
  pub mul_assoc : (x y z : R) → mul (mul x y) z ≡ mul x (mul y z)
  pub mul_comm : (x y : R) → mul x y ≡ mul y x
  pub mul_one : (x : R) → mul x one ≡ x
  pub mul_add : (x y z : R) → mul x (add y z) ≡ add (mul x y) (mul x z)
  pub mul_inv : (x : R) → (sign x ≡ Zero → ⊥) → mul x (inv x) ≡ one
  pub sign_one : sign one ≡ Pos
  pub sign_zero : (x : R) → sign x ≡ Zero → x ≡ zero
  pub sign_neg : (x : R) → sign (neg x) ≡ flip (sign x)
  pub sign_add : (x y : R) → sign x ≡ Pos → sign y ≡ Pos → sign (add x y) ≡ Pos
  pub sign_mul : (x y : R) → sign (mul x y) ≡ times (sign x) (sign y)
  pub root : (cs : List R) (a b : R) → sign (add b (neg a)) ≡ Pos → sign (horner zero add mul cs a) ≡ Neg → sign (horner zero add mul cs b) ≡ Pos →
      (c : R) × (sign (add c (neg a)) ≡ Pos) × (sign (add b (neg c)) ≡ Pos) × (horner zero add mul cs c ≡ zero)
