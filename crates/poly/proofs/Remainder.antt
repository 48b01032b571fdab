-- The remainder has the sign of what was divided, wherever the divisor is zero. Assumes nothing.
use mathlib.Core.Path.{◌≡◌, refl, sym, ◌∙◌, ap, ap₂}
use mathlib.Core.Bool.{Bool, true, false, cond}
use mathlib.Core.List.{List, ◌∷◌}
use Prim.Native.Nat.{ℕ, zero, suc, ◌+◌ as ◌+ℕ◌, ◌-◌, ◌%◌}
use native.Mathlib.Numerals.{add-one}
use native.Mathlib.Omega.{arith}
use lib.Dec.{eqb, ltb}
use lib.ListN.{length}
use Rattle.field.specs.declared.sign.Sign.{Sign}
use Rattle.field.specs.declared.sign.Sign.TheVariants.{Neg, Zero, Pos}
use Rattle.field.specs.Sign.{flip, times}
use Rattle.field.specs.Field.{RealClosedField}
use Rattle.field.specs.Order.{NotZero}
use Rattle.field.proofs.Ring.{ring}
use Rattle.field.proofs.Signs.{flip-flip, times-times}
use Rattle.poly.specs.Poly.{Poly, from_coefs, coefs, zero_poly, trim}
use Rattle.poly.specs.Arithmetic.{product, negative, map_poly}
use Rattle.poly.specs.Leading.{leading, shifted}
use Rattle.poly.specs.Modest.{modest, Checked, TooBig, Fine}
use Rattle.poly.specs.Division.{division_step, Division, divide, odd, exchanged, remainder}
use Rattle.poly.specs.Value.{value, Depth, power}
use Rattle.poly.proofs.Depth.{Depths, Depths-coefs, Depth-leading, Depth-negative, Depths-shifted, Depth-times, Depth-division_step, Depth-divide}
use Rattle.poly.proofs.Values.{list_value, list_cons, list_times, value_horner, value_trimmed, value-zero_poly, value_sum, value_negative, value_product}

-- h times s, k times over
times_power : Sign → ℕ → Sign → Sign
times_power h zero s = s
times_power h (suc k) s = times h (times_power h k s)

times-back : (h : Sign) → NotZero h → (k : ℕ) (s : Sign) → times_power h (suc k) (times h s) ≡ times_power h k s
unfolding times_power
times-back h w zero s = times-times h s w
times-back h w (suc k) s = ap (times h) (times-back h w k s)

times_power_pos : (k : ℕ) (s : Sign) → times_power Pos k s ≡ s
unfolding times_power
times_power_pos zero s = refl
times_power_pos (suc k) s = times_power_pos k s

-- an odd count of exchanges is one, an even one none
times_power_neg : (k : ℕ) (s : Sign) → times_power Neg k s ≡ cond (odd k) (flip s) s
unfolding times_power
times_power_neg zero s = refl
times_power_neg (suc zero) s = refl
times_power_neg (suc (suc k)) s =
    let e : k % 2 ≡ suc (suc k) % 2 = omega arith in
    flip-flip (times_power Neg k s) ∙ times_power_neg k s ∙ ap (λ m. cond (eqb m 1) (flip s) s) e

module _ {R : Type 0} (f : RealClosedField R) where
  open f use {zero as 𝟘, one as 𝟙, add as ◌+◌, mul as ◌*◌, neg as -◌, sign, sign_mul, sign_neg}

  infixl 60 ◌+◌
  infixl 70 ◌*◌
  infix 80 -◌
  list_shifted : (n : ℕ) (e : List R) (x : R) (k : ℕ) (cs : List Poly) → list_value f e x (shifted n k cs) ≡ power f x k * list_value f e x cs
  unfolding shifted power
  list_shifted n e x zero cs = let g : (v : R) → v ≡ 𝟙 * v = λ v. simp ring in g (list_value f e x cs)
  list_shifted n e x (suc k) cs =
      let g : (p v : R) → 𝟘 + x * (p * v) ≡ (x * p) * v = λ p v. simp ring in
      list_cons f e x (zero_poly n) (shifted n k cs) ∙ ap₂ (λ u v. u + x * v) (value-zero_poly f n e) (list_shifted n e x k cs)
      ∙ g (power f x k) (list_value f e x cs)

  -- a list of coefficients, each times c
  value-times : (e : List R) (x : R) (c : Poly) (cs : List Poly) → Depth (length e) c → Depths (length e) cs →
      value f (from_coefs (trim (map_poly (product (length e) c) cs))) (x ∷ e) ≡ value f c e * list_value f e x cs
  value-times e x c cs h d =
      value_trimmed f e x (map_poly (product (length e) c) cs)
      ∙ list_times f e x (value f c e) (length e) (product (length e) c) (λ a. value_product f e c a h) cs d

  pub value_division_step : (e : List R) (x : R) (p s : Poly) → Depth (suc (length e)) p → Depth (suc (length e)) s →
      value f (division_step (length e) p s) (x ∷ e) ≡
      value f (leading (length e) p) e * value f s (x ∷ e) + - (value f (leading (length e) s) e * (power f x (length (coefs s) - length (coefs p)) * value f p (x ∷ e)))
  value_division_step e x p s d k =
      let n = length e in
      let j = length (coefs s) - length (coefs p) in
      let m = shifted n j (coefs p) in
      let a = from_coefs (trim (map_poly (product n (leading n p)) (coefs s))) in
      let b = from_coefs (trim (map_poly (product n (leading n s)) m)) in
      let dm : Depths n m = Depths-shifted n j (coefs p) (Depths-coefs n p d) in
      let da : Depth (suc n) a = Depth-times n (leading n p) (coefs s) (Depth-leading n p d) (Depths-coefs n s k) in
      let db : Depth (suc n) b = Depth-times n (leading n s) m (Depth-leading n s k) dm in
      let va : value f a (x ∷ e) ≡ value f (leading n p) e * value f s (x ∷ e) =
      value-times e x (leading n p) (coefs s) (Depth-leading n p d) (Depths-coefs n s k) ∙ ap (λ v. value f (leading n p) e * v) (sym (value_horner f n e x s k)) in
      let vb : value f b (x ∷ e) ≡ value f (leading n s) e * (power f x j * value f p (x ∷ e)) =
      value-times e x (leading n s) m (Depth-leading n s k) dm
      ∙ ap (λ v. value f (leading n s) e * v) (list_shifted n e x j (coefs p) ∙ ap (λ v. power f x j * v) (sym (value_horner f n e x p d))) in
      value_sum f (x ∷ e) a (negative (suc n) b) da (Depth-negative (suc n) b db) ∙ ap₂ ◌+◌ va (value_negative f (x ∷ e) b db ∙ ap -◌ vb)

  sign-division_step : (e : List R) (x : R) (p s : Poly) (h : Sign) → Depth (suc (length e)) p → Depth (suc (length e)) s → sign (value f (leading (length e) p) e) ≡ h →
      value f p (x ∷ e) ≡ 𝟘 → sign (value f (division_step (length e) p s) (x ∷ e)) ≡ times h (sign (value f s (x ∷ e)))
  sign-division_step e x p s h d k hp z =
      let n = length e in
      let g : (a b c : R) → a + - (b * (c * 𝟘)) ≡ a = λ a b c. simp ring in
      let a = value f (leading n p) e in
      let b = value f (leading n s) e in
      let v = value f s (x ∷ e) in
      let c = power f x (length (coefs s) - length (coefs p)) in
      ap sign (value_division_step e x p s d k ∙ ap (λ w. a * v + - (b * (c * w))) z ∙ g (a * v) b c) ∙ sign_mul a v ∙ ap (λ t. times t (sign v)) hp

  sign-divide : (fuel : ℕ) (e : List R) (x : R) (p s : Poly) (k : ℕ) (h : Sign) → NotZero h → Depth (suc (length e)) p → Depth (suc (length e)) s →
      sign (value f (leading (length e) p) e) ≡ h → value f p (x ∷ e) ≡ 𝟘 →
      times_power h (divide fuel (length e) p s k).steps (sign (value f (divide fuel (length e) p s k).rest (x ∷ e))) ≡ times_power h k (sign (value f s (x ∷ e)))
  unfolding divide
  sign-divide zero e x p s k h w d ds hp z = refl
  sign-divide (suc fuel) e x p s k h w d ds hp z =
      let n = length e in
      let r = division_step n p s in
      stops (ltb (length (coefs s)) (length (coefs p))) (modest (suc n) r)
      (sign-divide fuel e x p r (k +ℕ 1) h w d (Depth-division_step n p s d ds) hp z
      ∙ ap₂ (times_power h) (add-one k) (sign-division_step e x p s h d ds hp z) ∙ times-back h w k (sign (value f s (x ∷ e))))
    where
      next : Division
      next = divide fuel (length e) p (division_step (length e) p s) (k +ℕ 1)

      Kept : Division → Type 0
      Kept v = times_power h v.steps (sign (value f v.rest (x ∷ e))) ≡ times_power h k (sign (value f s (x ∷ e)))

      stops : (b m : Bool) → Kept next → Kept (elim b as (λ _. Division) [ true ↦ record { good = true; steps = k; rest = s } | false ↦ elim m [ true ↦ next | false ↦ record { good = false; steps = k; rest = s } ] ])
      stops true m g = refl
      stops false true g = g
      stops false false g = refl

  sign-exchanged : (e : List R) (x : R) (k : ℕ) (h : Sign) (r : Poly) → NotZero h → Depth (suc (length e)) r →
      sign (value f (exchanged (length e) (odd k) h r) (x ∷ e)) ≡ times_power h k (sign (value f r (x ∷ e)))
  sign-exchanged e x k Neg r w d = turned (odd k) ∙ sym (times_power_neg k (sign (value f r (x ∷ e))))
    where
      turned : (b : Bool) → sign (value f (exchanged (length e) b Neg r) (x ∷ e)) ≡ cond b (flip (sign (value f r (x ∷ e)))) (sign (value f r (x ∷ e)))
      turned true = ap sign (value_negative f (x ∷ e) r d) ∙ sign_neg (value f r (x ∷ e))
      turned false = refl
  sign-exchanged e x k Zero r w d = absurd w
  sign-exchanged e x k Pos r w d = turned (odd k) ∙ sym (times_power_pos k (sign (value f r (x ∷ e))))
    where
      turned : (b : Bool) → sign (value f (exchanged (length e) b Pos r) (x ∷ e)) ≡ sign (value f r (x ∷ e))
      turned true = refl
      turned false = refl

  pub remainder_sign : (e : List R) (x : R) (h : Sign) (p s r : Poly) → Depth (suc (length e)) p → Depth (suc (length e)) s → NotZero h →
      sign (value f (leading (length e) p) e) ≡ h → remainder (length e) h p s ≡ Fine r →
      value f p (x ∷ e) ≡ 𝟘 → sign (value f r (x ∷ e)) ≡ sign (value f s (x ∷ e))
  unfolding times_power
  remainder_sign e x h p s r d ds w hp c z =
      let n = length e in
      let v = divide (length (coefs s) +ℕ 1) n p s 0 in
      fine v.good (exchanged n (odd v.steps) h v.rest)
      (sign-exchanged e x v.steps h v.rest w (Depth-divide (length (coefs s) +ℕ 1) n p s 0 d ds)
      ∙ sign-divide (length (coefs s) +ℕ 1) e x p s 0 h w d ds hp z) c
    where
      fine : (b : Bool) (q : Poly) → sign (value f q (x ∷ e)) ≡ sign (value f s (x ∷ e)) → (elim b as (λ _. Checked) [ true ↦ Fine q | false ↦ TooBig ]) ≡ Fine r →
          sign (value f r (x ∷ e)) ≡ sign (value f s (x ∷ e))
      fine true q g c = let q-is : q ≡ r = cc in ap (λ t. sign (value f t (x ∷ e))) (sym q-is) ∙ g
      fine false q g c = let z : ◌≡◌ {A = ℕ} 0 1 = cc in absurd (omega arith)
