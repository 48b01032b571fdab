-- The laws of a real closed field, gathered from Ring, Order and Whole.
use Rattle.field.specs.Field.{RealClosedField}
use Rattle.field.specs.Laws.{RingLaws, OrderLaws, WholeLaws, FieldLaws}
use Rattle.field.proofs.Ring as Ring
use Rattle.field.proofs.Order as Order
use Rattle.field.proofs.Whole as Whole

pub ring_laws : {R : Type 0} (f : RealClosedField R) → RingLaws f
ring_laws f = record {
  zero_add = Ring.zero_add f;
  one_mul = Ring.one_mul f;
  add_mul = Ring.add_mul f;
  mul_zero = Ring.mul_zero f;
  neg_neg = Ring.neg_neg f;
  neg_add = Ring.neg_add f;
  mul_neg = Ring.mul_neg f;
  neg_mul = Ring.neg_mul f;
  add_cancel = Ring.add_cancel f;
  no_zero_divisors = Order.no_zero_divisors f;
}

pub order_laws : {R : Type 0} (f : RealClosedField R) → OrderLaws f
order_laws f = record {
  sign_of_zero = Order.sign_of_zero f;
  sign_add_same = Order.sign_add_same f;
  sign_add_weak = Order.sign_add_weak f;
  sign_inv = Order.sign_inv f;
  sign_square = Order.sign_square f;
  equal_iff = λ a b. (Order.to_zero f a b, Order.equal_to f a b);
  turn = Order.to_turn f;
  trans = Order.to_trans f;
  trichotomy = Order.trichotomy f;
  add_both = Order.to_add f;
  mul_both = Order.to_mul f;
  between = Order.between f;
  beyond = Order.beyond f;
  beyond_both = Order.beyond_both f;
}

pub whole_laws : {R : Type 0} (f : RealClosedField R) → WholeLaws f
whole_laws f = record {
  integer_add = Whole.integer_add f;
  integer_mul = Whole.integer_mul f;
  integer_neg = Whole.integer_neg f;
  sign_integer = Whole.sign_integer f;
}

pub laws : {R : Type 0} (f : RealClosedField R) → FieldLaws f
laws f = (ring_laws f, order_laws f, whole_laws f)
