-- The leading coefficient, what is left without it, and the derivative, by their values. Assumes nothing.
use mathlib.Core.Path.{◌≡◌, refl, sym, ◌∙◌, ap, ap₂}
use mathlib.Core.Bool.{cond, ◌&&◌}
use mathlib.Core.List.{List, [], ◌∷◌}
use Prim.Native.Nat.{ℕ, zero, suc, ◌+◌ as ◌+ℕ◌, ◌-◌, ◌≤◌}
use native.Mathlib.Numerals.{add-one}
use native.Mathlib.Omega.{arith}
use lib.Dec.{T}
use lib.ListN.{length}
use lib.IntN.{pos}
use Rattle.field.specs.Sign.{times}
use Rattle.field.specs.Field.{RealClosedField}
use Rattle.field.specs.Sentence.{natural}
use Rattle.field.specs.Order.{NotZero}
use Rattle.field.proofs.Ring.{ring}
use Rattle.field.proofs.Signs.{not_zero_apart}
use Rattle.field.proofs.Order.{zero_sign}
use Rattle.field.proofs.Whole.{natural-suc, sign-natural}
use Rattle.poly.specs.Poly.{Poly, from_coefs, coefs, is_zero, all_zero, zero_poly, trim}
use Rattle.poly.specs.Arithmetic.{constant, product}
use Rattle.poly.specs.Leading.{last_or, leading, without_last, without_leading, scaled, without_first, derivative, degree}
use Rattle.poly.specs.Value.{value, Depth, values_at, coefficients_at}
use Rattle.roots.specs.Value.{slope}
use Rattle.poly.proofs.Depth.{Depths, Depths-coefs, Depth-constant}
use Rattle.poly.proofs.Values.{both, by_test, list_value, list_nil, list_cons, value_horner, value_trimmed, value-zero_poly, value_is_zero, value_constant, value_product}

pub coefs-from_coefs : (cs : List Poly) → coefs (from_coefs cs) ≡ cs
unfolding coefs from_coefs
coefs-from_coefs [] = refl
coefs-from_coefs (c ∷ cs) = ap (λ ds. c ∷ ds) (coefs-from_coefs cs)

all_zero-last : (c : Poly) (cs : List Poly) → T (is_zero c) → T (all_zero cs) → T (is_zero (last_or c cs))
unfolding all_zero last_or
all_zero-last c [] t s = t
all_zero-last c (b ∷ cs) t s = let (tb, ts) = both (is_zero b) (all_zero cs) s in all_zero-last b cs tb ts

-- nothing is cut off a list whose last isn't zero
pub trim-kept : (c : Poly) (cs : List Poly) → (T (is_zero (last_or c cs)) → ⊥) → trim cs ≡ cs
unfolding trim last_or
trim-kept c [] h = refl
trim-kept c (b ∷ cs) h =
    by_test (is_zero b && all_zero cs) (λ t. cond t [] (b ∷ trim cs) ≡ b ∷ cs)
    (λ t. let (tb, ts) = both (is_zero b) (all_zero cs) t in absurd (h (all_zero-last b cs tb ts)))
    (ap (λ ds. b ∷ ds) (trim-kept b cs h))

module _ {R : Type 0} (f : RealClosedField R) where
  open f use {zero as 𝟘, one as 𝟙, add as ◌+◌, mul as ◌*◌, sign, sign_mul}

  infixl 60 ◌+◌
  infixl 70 ◌*◌
  -- the last of the values is the value of the last
  last_values : (e : List R) (v : R) (c : Poly) (cs : List Poly) → v ≡ value f c e → last_or v (values_at f e cs) ≡ value f (last_or c cs) e
  unfolding last_or values_at
  last_values e v c [] h = h
  last_values e v c (b ∷ cs) h = last_values e (value f b e) b cs refl

  pub last_leading : (n : ℕ) (e : List R) (p : Poly) → last_or 𝟘 (coefficients_at f e p) ≡ value f (leading n p) e
  last_leading n e p = last_values e 𝟘 (zero_poly n) (coefs p) (sym (value-zero_poly f n e))

  length_values : (e : List R) (cs : List Poly) → length (values_at f e cs) ≡ length cs
  unfolding values_at
  length_values e [] = refl
  length_values e (c ∷ cs) = ap suc (length_values e cs)

  pub length-coefficients_at : (e : List R) (p : Poly) → length (coefficients_at f e p) ≡ length (coefs p)
  length-coefficients_at e p = length_values e (coefs p)

  list_single : (e : List R) (x : R) (c : Poly) → list_value f e x (c ∷ []) ≡ value f c e
  list_single e x c =
      let g : (v : R) → v + x * 𝟘 ≡ v = λ v. simp ring in
      list_cons f e x c [] ∙ ap (λ v. value f c e + x * v) (list_nil f e x) ∙ g (value f c e)

  list_without_last : (e : List R) (x : R) (z : Poly) (cs : List Poly) → value f (last_or z cs) e ≡ 𝟘 → list_value f e x (without_last cs) ≡ list_value f e x cs
  unfolding without_last last_or
  list_without_last e x z [] h = refl
  list_without_last e x z (c ∷ []) h = list_nil f e x ∙ sym (list_single e x c ∙ h)
  list_without_last e x z (c ∷ b ∷ cs) h =
      list_cons f e x c (without_last (b ∷ cs)) ∙ ap (λ v. value f c e + x * v) (list_without_last e x c (b ∷ cs) h) ∙ sym (list_cons f e x c (b ∷ cs))

  -- where the leading coefficient is zero, nothing is lost without it
  pub value_without_leading : (n : ℕ) (e : List R) (x : R) (p : Poly) → Depth (suc n) p → value f (leading n p) e ≡ 𝟘 → value f p (x ∷ e) ≡ value f (without_leading p) (x ∷ e)
  value_without_leading n e x p d h =
      value_horner f n e x p d ∙ sym (value_trimmed f e x (without_last (coefs p)) ∙ list_without_last e x (zero_poly n) (coefs p) h)

  list_short : (n : ℕ) (e : List R) (x : R) (cs : List Poly) → length cs - 1 ≡ 0 → list_value f e x cs ≡ value f (last_or (zero_poly n) cs) e
  unfolding last_or
  list_short n e x [] h = list_nil f e x ∙ sym (value-zero_poly f n e)
  list_short n e x (c ∷ []) h = list_single e x c
  list_short n e x (c ∷ b ∷ cs) h = absurd (omega arith)

  -- a polynomial of degree 0 is its leading coefficient
  pub value_degree_zero : (n : ℕ) (e : List R) (x : R) (p : Poly) → Depth (suc n) p → degree p ≡ 0 → value f p (x ∷ e) ≡ value f (leading n p) e
  value_degree_zero n e x p d h = value_horner f n e x p d ∙ list_short n e x (coefs p) h

  -- the derivative
  list_slope_nil : (e : List R) (x : R) → slope f (values_at f e []) x ≡ 𝟘
  unfolding slope values_at
  list_slope_nil e x = refl

  list_slope_cons : (e : List R) (x : R) (c : Poly) (cs : List Poly) → slope f (values_at f e (c ∷ cs)) x ≡ list_value f e x cs + x * slope f (values_at f e cs) x
  unfolding slope values_at
  list_slope_cons e x c cs = refl

  natural-next : (k : ℕ) → natural f (k +ℕ 1) ≡ 𝟙 + natural f k
  natural-next k = ap (natural f) (add-one k) ∙ natural-suc f k

  value-scaled : (e : List R) (k : ℕ) (c : Poly) → Depth (length e) c → value f (product (length e) (constant (length e) (pos k)) c) e ≡ natural f k * value f c e
  value-scaled e k c d =
      value_product f e (constant (length e) (pos k)) c (Depth-constant (length e) (pos k)) d ∙ ap (λ v. v * value f c e) (value_constant f e (pos k))

  list_scaled : (e : List R) (x : R) (k : ℕ) (cs : List Poly) → Depths (length e) cs →
      list_value f e x (scaled (length e) k cs) ≡ natural f k * list_value f e x cs + x * slope f (values_at f e cs) x
  unfolding scaled
  list_scaled e x k [] d =
      let g : (m : R) → 𝟘 ≡ m * 𝟘 + x * 𝟘 = λ m. simp ring in
      list_nil f e x ∙ g (natural f k) ∙ sym (ap₂ (λ u v. natural f k * u + x * v) (list_nil f e x) (list_slope_nil e x))
  list_scaled e x k (c ∷ cs) d =
      let n = length e in
      list_cons f e x (product n (constant n (pos k)) c) (scaled n (k +ℕ 1) cs)
      ∙ ap₂ (λ u v. u + x * v) (value-scaled e k c d.0)
      (list_scaled e x (k +ℕ 1) cs d.1 ∙ ap (λ m. m * list_value f e x cs + x * slope f (values_at f e cs) x) (natural-next k))
      ∙ regroup (natural f k) (value f c e) (list_value f e x cs) (slope f (values_at f e cs) x)
      ∙ sym (ap₂ (λ u v. natural f k * u + x * v) (list_cons f e x c cs) (list_slope_cons e x c cs))
    where
      regroup : (m c v s : R) → m * c + x * ((𝟙 + m) * v + x * s) ≡ m * (c + x * v) + x * (v + x * s)
      regroup m c v s = simp ring

  list_derivative : (e : List R) (x : R) (cs : List Poly) → Depths (length e) cs → list_value f e x (scaled (length e) 1 (without_first cs)) ≡ slope f (values_at f e cs) x
  unfolding scaled natural
  list_derivative e x [] d = list_nil f e x ∙ sym (list_slope_nil e x)
  list_derivative e x (c ∷ cs) d =
      let g : (v s : R) → (𝟙 + 𝟘) * v + s ≡ v + s = λ v s. simp ring in
      list_scaled e x 1 cs d.1 ∙ g (list_value f e x cs) (x * slope f (values_at f e cs) x) ∙ sym (list_slope_cons e x c cs)

  -- the derivative's value is the slope
  pub value_derivative : (e : List R) (x : R) (p : Poly) → Depth (suc (length e)) p → value f (derivative (length e) p) (x ∷ e) ≡ slope f (coefficients_at f e p) x
  value_derivative e x p d =
      value_trimmed f e x (scaled (length e) 1 (without_first (coefs p))) ∙ list_derivative e x (coefs p) (Depths-coefs (length e) p d)

  sign-scaled : (e : List R) (k : ℕ) (c : Poly) → 1 ≤ k → Depth (length e) c → sign (value f (product (length e) (constant (length e) (pos k)) c) e) ≡ sign (value f c e)
  sign-scaled e zero c h d = absurd (omega arith)
  sign-scaled e (suc k) c h d = ap sign (value-scaled e (suc k) c d) ∙ sign_mul (natural f (suc k)) (value f c e) ∙ ap (λ s. times s (sign (value f c e))) (sign-natural f k)

  sign-last-scaled : (e : List R) (k : ℕ) (z w : Poly) (cs : List Poly) → 1 ≤ k → Depths (length e) cs → 1 ≤ length cs →
      sign (value f (last_or z (scaled (length e) k cs)) e) ≡ sign (value f (last_or w cs) e)
  unfolding scaled last_or
  sign-last-scaled e k z w [] h d l = absurd (omega arith)
  sign-last-scaled e k z w (c ∷ []) h d l = sign-scaled e k c h d.0
  sign-last-scaled e k z w (c ∷ b ∷ cs) h d l = sign-last-scaled e (k +ℕ 1) (product (length e) (constant (length e) (pos k)) c) c (b ∷ cs) (omega arith) d.1 (omega arith)

  last-derivative : (e : List R) (cs : List Poly) → Depths (length e) cs → 1 ≤ length cs - 1 → NotZero (sign (value f (last_or (zero_poly (length e)) cs) e)) →
      sign (value f (last_or (zero_poly (length e)) (trim (scaled (length e) 1 (without_first cs)))) e) ≡ sign (value f (last_or (zero_poly (length e)) cs) e)
  unfolding last_or
  last-derivative e [] d l h = absurd (omega arith)
  last-derivative e (c ∷ cs) d l h =
      let z = zero_poly (length e) in
      let s = scaled (length e) 1 cs in
      let g : sign (value f (last_or z s) e) ≡ sign (value f (last_or c cs) e) = sign-last-scaled e 1 z c cs (omega arith) d.1 (omega arith) in
      ap (λ ds. sign (value f (last_or z ds) e))
      (trim-kept z s (λ t. not_zero_apart (sign (value f (last_or c cs) e)) h (sym g ∙ zero_sign f (value f (last_or z s) e) (value_is_zero f e (last_or z s) t))))
      ∙ g

  -- the derivative's leading coefficient has the sign of the polynomial's, where that isn't zero
  pub sign_leading_derivative : (e : List R) (p : Poly) → Depth (suc (length e)) p → 1 ≤ degree p → NotZero (sign (value f (leading (length e) p) e)) →
      sign (value f (leading (length e) (derivative (length e) p)) e) ≡ sign (value f (leading (length e) p) e)
  sign_leading_derivative e p d l h =
      ap (λ ds. sign (value f (last_or (zero_poly (length e)) ds) e)) (coefs-from_coefs (trim (scaled (length e) 1 (without_first (coefs p)))))
      ∙ last-derivative e (coefs p) (Depths-coefs (length e) p d) l h
