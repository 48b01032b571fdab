-- The synthetic quotient: p(x) = p(a) + (x - a) q(x), and the slope of p from that of q.
use mathlib.Core.Path.{◌≡◌, refl, ◌∙◌, ap, ap₂}
use mathlib.Core.List.{List, [], ◌∷◌}
use Prim.Native.Nat.{ℕ, zero, suc, ◌≤◌}
use native.Mathlib.Omega.{arith}
use lib.ListN.{length}
use Rattle.field.specs.Field.{RealClosedField, horner}
use Rattle.field.proofs.Ring.{ring}
use Rattle.roots.specs.Value.{value, slope, quotient}

pub no_room : {A : Type 0} (x : A) (xs : List A) → length (x ∷ xs) ≤ 0 → ⊥
unfolding length
no_room x xs h = omega arith

module _ {R : Type 0} (f : RealClosedField R) where
  open f use {zero as 𝟘, add as ◌+◌, mul as ◌*◌, neg as -◌}

  infixl 60 ◌+◌
  infixl 70 ◌*◌
  infix 80 -◌
  pub value_none : (x : R) → value f [] x ≡ 𝟘
  unfolding horner
  value_none x = refl

  pub value_cons : (c : R) (cs : List R) (x : R) → value f (c ∷ cs) x ≡ c + x * value f cs x
  unfolding horner
  value_cons c cs x = refl

  pub slope_none : (x : R) → slope f [] x ≡ 𝟘
  unfolding slope
  slope_none x = refl

  pub slope_cons : (c : R) (cs : List R) (x : R) → slope f (c ∷ cs) x ≡ value f cs x + x * slope f cs x
  unfolding slope
  slope_cons c cs x = refl

  pub quotient-shorter : (n : ℕ) (a : R) (cs : List R) → length cs ≤ suc n → length (quotient f a cs) ≤ n
  unfolding quotient length
  quotient-shorter n a [] h = omega arith
  quotient-shorter n a (c ∷ []) h = omega arith
  quotient-shorter zero a (c ∷ (d ∷ ds)) h = absurd (omega arith)
  quotient-shorter (suc n) a (c ∷ (d ∷ ds)) h =
      let k : length (d ∷ ds) ≤ suc n = omega arith in
      let shorter : length (quotient f a (d ∷ ds)) ≤ n = quotient-shorter n a (d ∷ ds) k in
      omega arith

  pub value-quotient : (a : R) (cs : List R) (x : R) → value f cs x ≡ value f cs a + (x + - a) * value f (quotient f a cs) x
  unfolding horner quotient
  value-quotient a [] x = simp ring
  value-quotient a (c ∷ []) x = simp ring
  value-quotient a (c ∷ (d ∷ ds)) x =
      let step : (v w : R) → c + x * (v + (x + - a) * w) ≡ (c + a * v) + (x + - a) * (v + x * w) = λ v w. simp ring in
      ap (λ w. c + x * w) (value-quotient a (d ∷ ds) x) ∙ step (value f (d ∷ ds) a) (value f (quotient f a (d ∷ ds)) x)

  pub slope-quotient : (a : R) (cs : List R) (x : R) →
      slope f cs x ≡ value f (quotient f a cs) x + (x + - a) * slope f (quotient f a cs) x
  unfolding horner slope quotient
  slope-quotient a [] x = simp ring
  slope-quotient a (c ∷ []) x = simp ring
  slope-quotient a (c ∷ (d ∷ ds)) x =
      let step : (u w s : R) → (u + (x + - a) * w) + x * (w + (x + - a) * s) ≡ (u + x * w) + (x + - a) * (w + x * s) = λ u w s. simp ring in
      let q : List R = quotient f a (d ∷ ds) in
      ap₂ (λ v w. v + x * w) (value-quotient a (d ∷ ds) x) (slope-quotient a (d ∷ ds) x) ∙ step (value f (d ∷ ds) a) (value f q x) (slope f q x)
