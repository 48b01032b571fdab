-- Polynomials that are found the same have the same value everywhere. Assumes nothing.
use mathlib.Core.Path.{◌≡◌, refl, sym, ◌∙◌, ap, ap₂}
use mathlib.Core.List.{List, [], ◌∷◌}
use lib.Dec.{T}
use lib.ListN.{length}
use lib.IntN.{ℤ, neg_ℤ, ◌+ℤ◌}
use Rattle.field.specs.Sign.{sign_of}
use Rattle.field.specs.Field.{RealClosedField}
use Rattle.field.specs.Sentence.{integer}
use Rattle.field.proofs.Order.{to_zero, zero_sign}
use Rattle.field.proofs.Whole.{integer_add, integer_neg, sign_integer}
use Rattle.poly.specs.Poly.{Poly, coefs, the_number, is_zero_number}
use Rattle.poly.specs.Arithmetic.{negative, same_by, same}
use Rattle.poly.specs.Value.{value, Depth}
use Rattle.poly.proofs.Depth.{Depths, Depths-coefs, Depth-negative}
use Rattle.poly.proofs.Values.{both, list_value, list_cons, value_horner, value-number, value_negative, integer_zero}

module _ {R : Type 0} (f : RealClosedField R) where
  open f use {zero as 𝟘, add as ◌+◌, mul as ◌*◌, neg as -◌}

  infixl 60 ◌+◌
  infixl 70 ◌*◌
  infix 80 -◌
  number_same : (a b : ℤ) → T (is_zero_number (a +ℤ neg_ℤ b)) → integer f a ≡ integer f b
  number_same a b t =
      let d : integer f a + - integer f b ≡ 𝟘 = sym (integer_add f a (neg_ℤ b) ∙ ap (λ v. integer f a + v) (integer_neg f b)) ∙ integer_zero f (a +ℤ neg_ℤ b) t in
      sym (to_zero f (integer f b) (integer f a) (zero_sign f (integer f a + - integer f b) d))

  list_same_by : (e : List R) (x : R) → ((a b : Poly) → Depth (length e) a → Depth (length e) b → T (same (length e) a b) → value f a e ≡ value f b e) →
      (p q : List Poly) → Depths (length e) p → Depths (length e) q → T (same_by (same (length e)) p q) → list_value f e x p ≡ list_value f e x q
  unfolding same_by
  list_same_by e x h [] [] d k t = refl
  list_same_by e x h [] (b ∷ q) d k t = absurd t
  list_same_by e x h (a ∷ p) [] d k t = absurd t
  list_same_by e x h (a ∷ p) (b ∷ q) d k t =
      let (ta, tp) = both (same (length e) a b) (same_by (same (length e)) p q) t in
      list_cons f e x a p ∙ ap₂ (λ u v. u + x * v) (h a b d.0 k.0 ta) (list_same_by e x h p q d.1 k.1 tp) ∙ sym (list_cons f e x b q)

  pub value_same : (e : List R) (p q : Poly) → Depth (length e) p → Depth (length e) q → T (same (length e) p q) → value f p e ≡ value f q e
  unfolding same
  value_same [] p q d k t = value-number f [] p d ∙ number_same (the_number p) (the_number q) t ∙ sym (value-number f [] q k)
  value_same (x ∷ e) p q d k t =
      let n = length e in
      value_horner f n e x p d ∙ list_same_by e x (value_same e) (coefs p) (coefs q) (Depths-coefs n p d) (Depths-coefs n q k) t ∙ sym (value_horner f n e x q k)

  pub value_same_negative : (e : List R) (p q : Poly) → Depth (length e) p → Depth (length e) q → T (same (length e) (negative (length e) p) q) → value f q e ≡ - value f p e
  value_same_negative e p q d k t = sym (value_same e (negative (length e) p) q (Depth-negative (length e) p d) k t) ∙ value_negative f e p d

  pub sign_number : (p : Poly) → Depth 0 p → f.sign (value f p []) ≡ sign_of (the_number p)
  sign_number p d = ap f.sign (value-number f [] p d) ∙ sign_integer f (the_number p)
