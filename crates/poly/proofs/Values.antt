-- The values of what is made of polynomials. A list of coefficients has, at x, the value of the polynomial that it makes. Assumes nothing.
use mathlib.Core.Path.{◌≡◌, refl, sym, ◌∙◌, ap, ap₂}
use mathlib.Core.Bool.{Bool, true, false, cond, ◌&&◌}
use mathlib.Core.List.{List, [], ◌∷◌}
use Prim.Native.Nat.{ℕ, zero, suc}
use lib.Dec.{T, eqb→eq}
use lib.ListN.{length}
use lib.IntN.{ℤ, pos, negsuc}
use Rattle.field.specs.Field.{RealClosedField, horner}
use Rattle.field.specs.Sentence.{natural, integer, lookup}
use Rattle.field.proofs.Ring.{ring, zero_add, add_zero, mul_zero, zero_mul}
use Rattle.field.proofs.Whole.{integer_add, integer_mul, integer_neg}
use Rattle.poly.specs.Poly.{Poly, Number, End, Coef, from_coefs, coefs, the_number, is_zero_number, is_zero, all_zero, zero_poly, trim}
use Rattle.poly.specs.Arithmetic.{constant, variable, sum_by, sum, map_poly, product_by, product, negative}
use Rattle.poly.specs.Value.{value, Depth, values_at}
use Rattle.roots.specs.Value.{value as value_of}
use Rattle.poly.proofs.Depth.{Depths, Depths-coefs, from_coefs-coefs, Depth-number, Depth-product, Depth-zero_poly, Depths-map, Depths-product_by}

-- both parts of a test
pub both : (a b : Bool) → T (a && b) → T a × T b
both true b t = (tt, t)
both false b t = absurd t

pub by_test : (b : Bool) (P : Bool → Type 0) → (T b → P true) → P false → P b
by_test true P h k = h tt
by_test false P h k = k

-- the value at x of the polynomial in the first variable with these coefficients, where the other variables have the values e
abbrev pub list_value : {R : Type 0} → RealClosedField R → List R → R → List Poly → R
list_value f e x cs = value_of f (values_at f e cs) x

module _ {R : Type 0} (f : RealClosedField R) where
  open f use {zero as 𝟘, one as 𝟙, add as ◌+◌, mul as ◌*◌, neg as -◌}

  infixl 60 ◌+◌
  infixl 70 ◌*◌
  infix 80 -◌
  pub list_nil : (e : List R) (x : R) → list_value f e x [] ≡ 𝟘
  unfolding horner values_at
  list_nil e x = refl

  pub list_cons : (e : List R) (x : R) (c : Poly) (cs : List Poly) → list_value f e x (c ∷ cs) ≡ value f c e + x * list_value f e x cs
  unfolding horner values_at
  list_cons e x c cs = refl

  pub value-from_coefs : (e : List R) (x : R) (cs : List Poly) → value f (from_coefs cs) (x ∷ e) ≡ list_value f e x cs
  unfolding value from_coefs
  value-from_coefs e x [] = sym (list_nil e x)
  value-from_coefs e x (c ∷ cs) = ap (λ v. value f c e + x * v) (value-from_coefs e x cs) ∙ sym (list_cons e x c cs)

  -- the value of a polynomial in its first variable
  pub value_horner : (n : ℕ) (e : List R) (x : R) (p : Poly) → Depth (suc n) p → value f p (x ∷ e) ≡ list_value f e x (coefs p)
  value_horner n e x p d = ap (λ q. value f q (x ∷ e)) (sym (from_coefs-coefs n p d)) ∙ value-from_coefs e x (coefs p)

  pub value-number : (e : List R) (p : Poly) → Depth zero p → value f p e ≡ integer f (the_number p)
  unfolding value
  value-number e p d = ap (λ q. value f q e) (Depth-number p d)

  pub integer_zero : (z : ℤ) → T (is_zero_number z) → integer f z ≡ 𝟘
  unfolding natural
  integer_zero (pos n) t = ap (natural f) (eqb→eq n 0 t)
  integer_zero (negsuc n) t = absurd t

  -- the zero polynomial is zero everywhere
  pub value_is_zero : (e : List R) (p : Poly) → T (is_zero p) → value f p e ≡ 𝟘
  unfolding value
  value_is_zero e (Number z) t = integer_zero z t
  value_is_zero e End t = refl
  value_is_zero e (Coef c r) t = absurd t

  pub value-zero_poly : (n : ℕ) (e : List R) → value f (zero_poly n) e ≡ 𝟘
  unfolding value natural
  value-zero_poly zero e = refl
  value-zero_poly (suc n) e = refl

  list_all_zero : (e : List R) (x : R) (cs : List Poly) → T (all_zero cs) → list_value f e x cs ≡ 𝟘
  unfolding all_zero
  list_all_zero e x [] t = list_nil e x
  list_all_zero e x (c ∷ cs) t =
      let (tc, ts) = both (is_zero c) (all_zero cs) t in
      list_cons e x c cs ∙ ap₂ (λ u v. u + x * v) (value_is_zero e c tc) (list_all_zero e x cs ts) ∙ simp ring

  pub list_trim : (e : List R) (x : R) (cs : List Poly) → list_value f e x (trim cs) ≡ list_value f e x cs
  unfolding trim
  list_trim e x [] = refl
  list_trim e x (c ∷ cs) =
      by_test (is_zero c && all_zero cs) (λ b. list_value f e x (cond b [] (c ∷ trim cs)) ≡ list_value f e x (c ∷ cs))
      (λ t. list_nil e x ∙ sym (unfold all_zero in list_all_zero e x (c ∷ cs) t))
      (list_cons e x c (trim cs) ∙ ap (λ v. value f c e + x * v) (list_trim e x cs) ∙ sym (list_cons e x c cs))

  pub value_trimmed : (e : List R) (x : R) (cs : List Poly) → value f (from_coefs (trim cs)) (x ∷ e) ≡ list_value f e x cs
  value_trimmed e x cs = value-from_coefs e x (trim cs) ∙ list_trim e x cs

  pub value_constant : (e : List R) (z : ℤ) → value f (constant (length e) z) e ≡ integer f z
  unfolding value constant
  value_constant [] z = refl
  value_constant (x ∷ e) z =
      value_trimmed e x (constant (length e) z ∷ []) ∙ list_cons e x (constant (length e) z) []
      ∙ ap₂ (λ u v. u + x * v) (value_constant e z) (list_nil e x) ∙ simp ring

  pub value_variable : (e : List R) (i : ℕ) → value f (variable (length e) i) e ≡ lookup f e i
  unfolding value variable lookup natural
  value_variable [] i = refl
  value_variable (x ∷ e) zero =
      let n = length e in
      value-from_coefs e x (zero_poly n ∷ constant n (pos 1) ∷ []) ∙ list_cons e x (zero_poly n) (constant n (pos 1) ∷ [])
      ∙ ap₂ (λ u v. u + x * v) (value-zero_poly n e) (list_cons e x (constant n (pos 1)) [] ∙ ap₂ (λ u v. u + x * v) (value_constant e (pos 1)) (list_nil e x))
      ∙ simp ring
  value_variable (x ∷ e) (suc i) =
      value_trimmed e x (variable (length e) i ∷ []) ∙ list_cons e x (variable (length e) i) []
      ∙ ap₂ (λ u v. u + x * v) (value_variable e i) (list_nil e x) ∙ simp ring

  -- sums
  list_sum_by : (e : List R) (x : R) → ((a b : Poly) → Depth (length e) a → Depth (length e) b → value f (sum (length e) a b) e ≡ value f a e + value f b e) →
      (p q : List Poly) → Depths (length e) p → Depths (length e) q → list_value f e x (sum_by (sum (length e)) p q) ≡ list_value f e x p + list_value f e x q
  unfolding sum_by
  list_sum_by e x h [] q d k = sym (ap (λ u. u + list_value f e x q) (list_nil e x) ∙ zero_add f (list_value f e x q))
  list_sum_by e x h (a ∷ p) [] d k = sym (ap (λ u. list_value f e x (a ∷ p) + u) (list_nil e x) ∙ add_zero f (list_value f e x (a ∷ p)))
  list_sum_by e x h (a ∷ p) (b ∷ q) d k =
      list_cons e x (sum (length e) a b) (sum_by (sum (length e)) p q)
      ∙ ap₂ (λ u v. u + x * v) (h a b d.0 k.0) (list_sum_by e x h p q d.1 k.1)
      ∙ regroup (value f a e) (value f b e) (list_value f e x p) (list_value f e x q)
      ∙ sym (ap₂ ◌+◌ (list_cons e x a p) (list_cons e x b q))
    where
      regroup : (a b p q : R) → (a + b) + x * (p + q) ≡ (a + x * p) + (b + x * q)
      regroup a b p q = simp ring

  pub value_sum : (e : List R) (p q : Poly) → Depth (length e) p → Depth (length e) q → value f (sum (length e) p q) e ≡ value f p e + value f q e
  unfolding value sum
  value_sum [] p q d k = integer_add f (the_number p) (the_number q) ∙ sym (ap₂ ◌+◌ (value-number [] p d) (value-number [] q k))
  value_sum (x ∷ e) p q d k =
      let n = length e in
      value_trimmed e x (sum_by (sum n) (coefs p) (coefs q))
      ∙ list_sum_by e x (value_sum e) (coefs p) (coefs q) (Depths-coefs n p d) (Depths-coefs n q k)
      ∙ sym (ap₂ ◌+◌ (value_horner n e x p d) (value_horner n e x q k))

  -- a list whose members are all multiplied by c
  pub list_times : (e : List R) (x c : R) (n : ℕ) (g : Poly → Poly) → ((a : Poly) → Depth n a → value f (g a) e ≡ c * value f a e) →
      (cs : List Poly) → Depths n cs → list_value f e x (map_poly g cs) ≡ c * list_value f e x cs
  unfolding map_poly
  list_times e x c n g h [] d = list_nil e x ∙ sym (ap (λ v. c * v) (list_nil e x) ∙ mul_zero f c)
  list_times e x c n g h (a ∷ cs) d =
      list_cons e x (g a) (map_poly g cs) ∙ ap₂ (λ u v. u + x * v) (h a d.0) (list_times e x c n g h cs d.1)
      ∙ regroup (value f a e) (list_value f e x cs) ∙ sym (ap (λ v. c * v) (list_cons e x a cs))
    where
      regroup : (a v : R) → c * a + x * (c * v) ≡ c * (a + x * v)
      regroup a v = simp ring

  pub value_negative : (e : List R) (p : Poly) → Depth (length e) p → value f (negative (length e) p) e ≡ - value f p e
  unfolding value negative
  value_negative [] p d = integer_neg f (the_number p) ∙ sym (ap -◌ (value-number [] p d))
  value_negative (x ∷ e) p d =
      let n = length e in
      value-from_coefs e x (map_poly (negative n) (coefs p))
      ∙ list_times e x (- 𝟙) n (negative n) (λ a k. value_negative e a k ∙ minus_one (value f a e)) (coefs p) (Depths-coefs n p d)
      ∙ sym (minus_one (list_value f e x (coefs p))) ∙ sym (ap -◌ (value_horner n e x p d))
    where
      minus_one : (a : R) → - a ≡ - 𝟙 * a
      minus_one a = simp ring

  -- products
  list_product_by : (e : List R) (x : R) → ((a b : Poly) → Depth (length e) a → Depth (length e) b → value f (product (length e) a b) e ≡ value f a e * value f b e) →
      (p q : List Poly) → Depths (length e) p → Depths (length e) q →
      list_value f e x (product_by (sum (length e)) (product (length e)) (zero_poly (length e)) p q) ≡ list_value f e x p * list_value f e x q
  unfolding product_by
  list_product_by e x h [] q d k = list_nil e x ∙ sym (ap (λ v. v * list_value f e x q) (list_nil e x) ∙ zero_mul f (list_value f e x q))
  list_product_by e x h (a ∷ p) q d k =
      let n = length e in
      let pq = product_by (sum n) (product n) (zero_poly n) p q in
      list_sum_by e x (value_sum e) (map_poly (product n a) q) (zero_poly n ∷ pq)
      (Depths-map n (product n a) (λ b. Depth-product n a b d.0) q k) (Depth-zero_poly n, Depths-product_by n (product n) (Depth-product n) p q d.1 k)
      ∙ ap₂ ◌+◌ (list_times e x (value f a e) n (product n a) (λ b. h a b d.0) q k)
      (list_cons e x (zero_poly n) pq ∙ ap₂ (λ u v. u + x * v) (value-zero_poly n e) (list_product_by e x h p q d.1 k))
      ∙ regroup (value f a e) (list_value f e x p) (list_value f e x q)
      ∙ sym (ap (λ v. v * list_value f e x q) (list_cons e x a p))
    where
      regroup : (a p q : R) → a * q + (𝟘 + x * (p * q)) ≡ (a + x * p) * q
      regroup a p q = simp ring

  pub value_product : (e : List R) (p q : Poly) → Depth (length e) p → Depth (length e) q → value f (product (length e) p q) e ≡ value f p e * value f q e
  unfolding value product
  value_product [] p q d k = integer_mul f (the_number p) (the_number q) ∙ sym (ap₂ ◌*◌ (value-number [] p d) (value-number [] q k))
  value_product (x ∷ e) p q d k =
      let n = length e in
      value_trimmed e x (product_by (sum n) (product n) (zero_poly n) (coefs p) (coefs q))
      ∙ list_product_by e x (value_product e) (coefs p) (coefs q) (Depths-coefs n p d) (Depths-coefs n q k)
      ∙ sym (ap₂ ◌*◌ (value_horner n e x p d) (value_horner n e x q k))
