-- A term that is a modest polynomial has that polynomial's value. Assumes nothing.
use mathlib.Core.Path.{◌≡◌, refl, ◌∙◌, ap₂, subst}
use mathlib.Core.Bool.{Bool, true, false, cond}
use mathlib.Core.List.{List}
use Prim.Native.Nat.{ℕ}
use native.Mathlib.Omega.{arith}
use lib.ListN.{length}
use Rattle.field.specs.Field.{RealClosedField}
use Rattle.field.specs.Sentence.{Term, Var, Num, Sum, Product, term_value}
use Rattle.poly.specs.Poly.{Poly}
use Rattle.poly.specs.Arithmetic.{constant, variable, sum, product}
use Rattle.poly.specs.Modest.{modest, Checked, TooBig, Fine, checked, on_both, term_poly}
use Rattle.poly.specs.Value.{value, Depth}
use Rattle.poly.proofs.Depth.{Depth-constant, Depth-variable, Depth-sum, Depth-product}
use Rattle.poly.proofs.Values.{value_constant, value_variable, value_sum, value_product}

never_fine : {A : Type 0} (p : Poly) → TooBig ≡ Fine p → A
never_fine p e = let z : ◌≡◌ {A = ℕ} 0 1 = cc in absurd (omega arith)

checked_fine : (n : ℕ) (q p : Poly) → checked n q ≡ Fine p → q ≡ p
checked_fine n q p = fine (modest n q)
  where
    fine : (b : Bool) → cond b (Fine q) TooBig ≡ Fine p → q ≡ p
    fine true e = cc
    fine false e = never_fine p e

module _ {R : Type 0} (f : RealClosedField R) (e : List R) where
  -- p is a polynomial in the variables e, with the value v
  abbrev pub Stands : Poly → R → Type 0
  Stands p v = Depth (length e) p × (value f p e ≡ v)

  stands-checked : (q p : Poly) (v : R) → Stands q v → checked (length e) q ≡ Fine p → Stands p v
  stands-checked q p v h c = subst (λ r. Stands r v) (checked_fine (length e) q p c) h

  stands_both : (op : Poly → Poly → Poly) (m : R → R → R) → ((p q : Poly) → Depth (length e) p → Depth (length e) q → Stands (op p q) (m (value f p e) (value f q e))) →
      (a b : Checked) (u v : R) → ((p : Poly) → a ≡ Fine p → Stands p u) → ((q : Poly) → b ≡ Fine q → Stands q v) →
      (r : Poly) → on_both (λ p q. checked (length e) (op p q)) a b ≡ Fine r → Stands r (m u v)
  stands_both op m h TooBig b u v ha hb r c = never_fine r c
  stands_both op m h (Fine p) TooBig u v ha hb r c = never_fine r c
  stands_both op m h (Fine p) (Fine q) u v ha hb r c =
      let (dp, vp) = ha p refl in
      let (dq, vq) = hb q refl in
      let (d, w) = h p q dp dq in
      stands-checked (op p q) r (m u v) (d, w ∙ ap₂ m vp vq) c

  pub value_term : (t : Term) (p : Poly) → term_poly (length e) t ≡ Fine p → Stands p (term_value f e t)
  unfolding term_poly term_value
  value_term (Var i) p c = stands-checked (variable (length e) i) p _ (Depth-variable (length e) i, value_variable f e i) c
  value_term (Num z) p c = stands-checked (constant (length e) z) p _ (Depth-constant (length e) z, value_constant f e z) c
  value_term (Sum s t) p c =
      stands_both (sum (length e)) f.add (λ p q d k. (Depth-sum (length e) p q d k, value_sum f e p q d k))
      (term_poly (length e) s) (term_poly (length e) t) (term_value f e s) (term_value f e t) (value_term s) (value_term t) p c
  value_term (Product s t) p c =
      stands_both (product (length e)) f.mul (λ p q d k. (Depth-product (length e) p q d k, value_product f e p q d k))
      (term_poly (length e) s) (term_poly (length e) t) (term_value f e s) (term_value f e t) (value_term s) (value_term t) p c
