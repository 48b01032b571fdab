-- What is promised of polynomials: how many variables they have, and, in every real closed field, their values. Assumes nothing.
use Rattle.std.specs.Prelude.{◌≡◌, List, [], ◌∷◌, ℕ, suc, ◌-◌, ◌≤◌, T, length, ℤ}
use Rattle.field.specs.declared.sign.Sign.{Sign}
use Rattle.field.specs.Sign.{sign_of}
use Rattle.field.specs.Field.{RealClosedField}
use Rattle.field.specs.Order.{NotZero}
use Rattle.field.specs.Sentence.{Term, integer, lookup, term_value}
use Rattle.poly.specs.Poly.{Poly, coefs, the_number, is_zero, zero_poly}
use Rattle.poly.specs.Arithmetic.{constant, variable, sum, product, negative, same}
use Rattle.poly.specs.Leading.{last_or, leading, without_leading, derivative, degree}
use Rattle.poly.specs.Modest.{Fine, term_poly}
use Rattle.poly.specs.Division.{division_step, remainder}
use Rattle.poly.specs.Value.{value, Depth, coefficients_at, power}
use Rattle.roots.specs.Value.{value as value_of, slope}

-- Each operation keeps the count of variables.
pub record DepthLaws : Type 0 where
  pub Depth-zero_poly : (n : ℕ) → Depth n (zero_poly n)
  pub Depth-constant : (n : ℕ) (z : ℤ) → Depth n (constant n z)
  pub Depth-variable : (n i : ℕ) → Depth n (variable n i)
  pub Depth-sum : (n : ℕ) (p q : Poly) → Depth n p → Depth n q → Depth n (sum n p q)
  pub Depth-product : (n : ℕ) (p q : Poly) → Depth n p → Depth n q → Depth n (product n p q)
  pub Depth-negative : (n : ℕ) (p : Poly) → Depth n p → Depth n (negative n p)
  pub Depth-leading : (n : ℕ) (p : Poly) → Depth (suc n) p → Depth n (leading n p)
  pub Depth-without_leading : (n : ℕ) (p : Poly) → Depth (suc n) p → Depth (suc n) (without_leading p)
  pub Depth-derivative : (n : ℕ) (p : Poly) → Depth (suc n) p → Depth (suc n) (derivative n p)
  pub Depth-remainder : (n : ℕ) (h : Sign) (p s r : Poly) → Depth (suc n) p → Depth (suc n) s → remainder n h p s ≡ Fine r → Depth (suc n) r

module _ {R : Type 0} (f : RealClosedField R) where
  open f use {zero as 𝟘, add as ◌+◌, mul as ◌*◌, neg as -◌, sign}

  infixl 60 ◌+◌
  infixl 70 ◌*◌
  infix 80 -◌
  -- The operations do to values what they are named after, and a term that is a modest polynomial has that polynomial's value.
  pub record ValueLaws : Type 0 where
    pub value_is_zero : (e : List R) (p : Poly) → T (is_zero p) → value f p e ≡ 𝟘
    pub value_constant : (e : List R) (z : ℤ) → value f (constant (length e) z) e ≡ integer f z
    pub value_variable : (e : List R) (i : ℕ) → value f (variable (length e) i) e ≡ lookup f e i
    pub value_sum : (e : List R) (p q : Poly) → Depth (length e) p → Depth (length e) q → value f (sum (length e) p q) e ≡ value f p e + value f q e
    pub value_product : (e : List R) (p q : Poly) → Depth (length e) p → Depth (length e) q → value f (product (length e) p q) e ≡ value f p e * value f q e
    pub value_negative : (e : List R) (p : Poly) → Depth (length e) p → value f (negative (length e) p) e ≡ - value f p e
    pub value_term : (e : List R) (t : Term) (p : Poly) → term_poly (length e) t ≡ Fine p → Depth (length e) p × (value f p e ≡ term_value f e t)

  -- Polynomials that are found the same have the same value, and a number has its sign.
  pub record EqualityLaws : Type 0 where
    pub value_same : (e : List R) (p q : Poly) → Depth (length e) p → Depth (length e) q → T (same (length e) p q) → value f p e ≡ value f q e
    pub value_same_negative : (e : List R) (p q : Poly) → Depth (length e) p → Depth (length e) q → T (same (length e) (negative (length e) p) q) → value f q e ≡ - value f p e
    pub sign_number : (p : Poly) → Depth 0 p → sign (value f p []) ≡ sign_of (the_number p)

  -- A polynomial in its first variable x: it is given by its coefficients, the last of which is the leading one.
  pub record LeadingLaws : Type 0 where
    pub value_horner : (e : List R) (x : R) (p : Poly) → Depth (suc (length e)) p → value f p (x ∷ e) ≡ value_of f (coefficients_at f e p) x
    pub last_leading : (e : List R) (p : Poly) → last_or 𝟘 (coefficients_at f e p) ≡ value f (leading (length e) p) e
    pub value_without_leading : (e : List R) (x : R) (p : Poly) → Depth (suc (length e)) p → value f (leading (length e) p) e ≡ 𝟘 → value f p (x ∷ e) ≡ value f (without_leading p) (x ∷ e)
    pub value_degree_zero : (e : List R) (x : R) (p : Poly) → Depth (suc (length e)) p → degree p ≡ 0 → value f p (x ∷ e) ≡ value f (leading (length e) p) e

  -- The derivative is the slope, and where p's leading coefficient isn't zero the derivative's has its sign.
  pub record DerivativeLaws : Type 0 where
    pub value_derivative : (e : List R) (x : R) (p : Poly) → Depth (suc (length e)) p → value f (derivative (length e) p) (x ∷ e) ≡ slope f (coefficients_at f e p) x
    pub sign_leading_derivative : (e : List R) (p : Poly) → Depth (suc (length e)) p → 1 ≤ degree p → NotZero (sign (value f (leading (length e) p) e)) →
        sign (value f (leading (length e) (derivative (length e) p)) e) ≡ sign (value f (leading (length e) p) e)

  -- A step of the division of s by p takes a multiple of p from a multiple of s. The remainder has the sign of s wherever p is zero.
  pub record RemainderLaws : Type 0 where
    pub value_division_step : (e : List R) (x : R) (p s : Poly) → Depth (suc (length e)) p → Depth (suc (length e)) s →
        value f (division_step (length e) p s) (x ∷ e) ≡
        value f (leading (length e) p) e * value f s (x ∷ e) + - (value f (leading (length e) s) e * (power f x (length (coefs s) - length (coefs p)) * value f p (x ∷ e)))
    pub remainder_sign : (e : List R) (x : R) (h : Sign) (p s r : Poly) → Depth (suc (length e)) p → Depth (suc (length e)) s → NotZero h →
        sign (value f (leading (length e) p) e) ≡ h → remainder (length e) h p s ≡ Fine r →
        value f p (x ∷ e) ≡ 𝟘 → sign (value f r (x ∷ e)) ≡ sign (value f s (x ∷ e))
