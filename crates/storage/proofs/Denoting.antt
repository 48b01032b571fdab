-- The laws of lists that stand for polynomials, from those of the polynomials' own lists. Assumes nothing.
use Rattle.std.proofs.Common.{◌≡◌, ℕ, zero, suc, ◌+◌, ◌-◌, ◌/◌, ◌%◌, ◌^◌, ◌<◌, ◌≤◌, true, cond, ◌&&◌, T, eqb, ltb, leb, List, [], ◌∷◌, sym, refl, ap, ◌∙◌, subst, ap₂, pow-suc, arith, eq-eqb, le-leb}
use Rattle.poly.specs.Poly.{Poly}
use Rattle.poly.specs.Arithmetic.{constant, variable, sum, product, negative}
use Rattle.poly.specs.Leading.{derivative}
use Rattle.poly.specs.Modest.{magnitude}
use Rattle.poly.specs.Division.{division_step}
use Rattle.terms.specs.Monomial.{Monomial, constant_terms, flat}
use Rattle.terms.specs.Operations.{add_terms, neg_terms, mul_terms, variable_terms, same_terms, is_zero_terms}
use Rattle.terms.specs.LeadingTerms.{degree_terms, length_terms, leading_terms, prefix_terms, derivative_terms}
use Rattle.terms.specs.DivisionTerms.{step_terms}
use Rattle.terms.specs.ModestTerms.{small_key, small_terms, last_digits, count_terms, modest_terms}
use Rattle.terms.specs.Sizes.{KeysBelow}
use Rattle.terms.specs.Canon.{Canon}
use Rattle.terms.proofs.Laws.{flat_laws, canon_laws, flat_operation_laws, flat_leading_laws, flat-modest_laws, flat_division_laws, size_laws}
use Rattle.terms.proofs.Checks.{Canon-modest}
use Rattle.storage.specs.Denoting.{Checks, DenotingLaws}

small_zero : (d : ℕ) → small_key d 0 ≡ true
unfolding small_key
small_zero zero = refl
small_zero (suc d) = small_zero d

-- digits past the n-th are zero
small_more : (n d k : ℕ) → k < 32 ^ n → small_key (n + d) k ≡ small_key n k
small_more zero d k h =
    let e : k ≡ 0 = omega arith in
    let q : zero + d ≡ d = omega arith in
    ap₂ small_key q e ∙ small_zero d ∙ sym (small_zero zero) ∙ ap (small_key zero) (sym e)
small_more (suc n) d k h =
    let q : suc n + d ≡ suc (n + d) = omega arith in
    let l : k / 32 < 32 ^ n = omega (arith, pow-suc 32 n, h) in
    ap (λ j. small_key j k) q ∙ cons (n + d) k ∙ ap (λ t. ltb (k % 32) 9 && t) (small_more n d (k / 32) l) ∙ sym (cons n k)
  where
    cons : (j k : ℕ) → small_key (suc j) k ≡ ltb (k % 32) 9 && small_key j (k / 32)
    cons j k = unfold small_key in refl

small_any : (n : ℕ) (ts : List Monomial) → n ≤ 4 → KeysBelow (32 ^ n) ts → small_terms 4 ts ≡ small_terms n ts
unfolding small_terms KeysBelow
small_any n [] h k = refl
small_any n (m ∷ ms) h k =
    let e : n + (4 - n) ≡ 4 = omega arith in
    ap₂ (λ s t. (ltb (magnitude m.times) (2 ^ 27) && s) && t) (ap (λ j. small_key j m.key) (sym e) ∙ small_more n (4 - n) m.key k.0) (small_any n ms h k.1)

-- a number is one number
few-digits : (ts : List Monomial) → KeysBelow 1 ts → last_digits ts ≤ 1
unfolding last_digits KeysBelow
few-digits [] k = omega arith
few-digits (m ∷ []) k = let h = k.0 in omega arith
few-digits (m ∷ j ∷ ms) k =
    let h = k.0 in
    let l = k.1.0 in
    let e : eqb (m.key / 32) (j.key / 32) ≡ true = eq-eqb (m.key / 32) (j.key / 32) (omega arith) in
    let ih = few-digits (j ∷ ms) k.1 in
    let c : cond (eqb (m.key / 32) (j.key / 32)) 0 (m.key % 32 + 1) ≡ 0 = ap (λ t. cond t 0 (m.key % 32 + 1)) e in
    omega arith

count_any : (n : ℕ) (ts : List Monomial) → KeysBelow (32 ^ n) ts → leb (count_terms 4 ts) 64 ≡ leb (count_terms n ts) 64
count_any zero ts k = let f = few-digits ts k in le-leb (last_digits ts) 64 (omega arith)
count_any (suc n) ts k = refl

modest_any : (n : ℕ) (ts : List Monomial) → n ≤ 4 → KeysBelow (32 ^ n) ts → modest_terms 4 ts ≡ modest_terms n ts
modest_any n ts h k = ap₂ ◌&&◌ (small_any n ts h k) (count_any n ts k)

-- what is computed has longer lists before it is checked
checks : (b n : ℕ) (ts : List Monomial) (p : Poly) → b ≤ 32 → n ≤ 4 → Canon b n p → ts ≡ flat n p → Checks n ts p
checks b n ts p h l c e =
    let keys = size_laws.keys_rising 0 (32 ^ n) (flat n p) (flat_laws.flat_rising b n p h c) in
    let test = ap (modest_terms 4) e ∙ modest_any n (flat n p) l keys ∙ sym (flat-modest_laws.flat_modest b n p h c) in
    record { test = test; kept = λ t. record { canon = Canon-modest b n p c (subst T (sym (sym test ∙ t)) tt); monomials = e } }

pub denoting_laws : DenotingLaws
denoting_laws =
    record {
      one = λ n ts p q d e. flat_laws.flat_unique 9 n p q (omega arith) d.canon e.canon (sym d.monomials ∙ e.monomials);
      sum_checks = λ n ts us p q h d e.
          checks 9 n (add_terms ts us) (sum n p q) (omega arith) h (canon_laws.Canon-sum 9 n p q d.canon e.canon)
          (ap₂ add_terms d.monomials e.monomials ∙ sym (flat_operation_laws.flat_sum 9 n p q (omega arith) d.canon e.canon));
      product_checks = λ n ts us p q h d e.
          checks 17 n (mul_terms ts us) (product n p q) (omega arith) h (canon_laws.Canon-product 8 8 n p q d.canon e.canon)
          (ap₂ mul_terms d.monomials e.monomials ∙ sym (flat_operation_laws.flat_product 8 8 n p q (omega arith) d.canon e.canon));
      negative_checks = λ n ts p h d.
          checks 9 n (neg_terms ts) (negative n p) (omega arith) h (canon_laws.Canon-negative 9 n p d.canon)
          (ap neg_terms d.monomials ∙ sym (flat_operation_laws.flat_negative n p));
      number_checks = λ n z h. checks 9 n (constant_terms z) (constant n z) (omega arith) h (canon_laws.Canon-constant 9 n z (omega arith)) (sym (flat_operation_laws.flat_constant n z));
      variable_checks = λ n i h. checks 9 n (variable_terms n i) (variable n i) (omega arith) h (canon_laws.Canon-variable 9 n i (omega arith)) (sym (flat_operation_laws.flat_variable n i));
      derivative_checks = λ n ts p h d.
          checks 9 (suc n) (derivative_terms n ts) (derivative n p) (omega arith) h (canon_laws.Canon-derivative 8 n p d.canon)
          (ap (derivative_terms n) d.monomials ∙ sym (flat_leading_laws.flat_derivative 8 n p (omega arith) d.canon));
      step_checks = λ n ts us p s h d e.
          checks 17 (suc n) (step_terms n ts us) (division_step n p s) (omega arith) h (canon_laws.Canon-division_step 8 n p s d.canon e.canon)
          (ap₂ (step_terms n) d.monomials e.monomials ∙ sym (flat_division_laws.flat_division_step 8 n p s (omega arith) d.canon e.canon));
      leading_denotes = λ n ts p d.
          record { canon = canon_laws.Canon-leading 9 n p d.canon; monomials = ap (leading_terms n) d.monomials ∙ sym (flat_leading_laws.flat_leading 9 n p (omega arith) d.canon) };
      without_leading_denotes = λ n ts p d.
          record {
            canon = canon_laws.Canon-without_leading 9 n p d.canon;
            monomials = ap (prefix_terms n) d.monomials ∙ sym (flat_leading_laws.flat_without_leading 9 n p (omega arith) d.canon);
          };
      negative_denotes = λ n ts p d.
          record { canon = canon_laws.Canon-negative 9 n p d.canon; monomials = ap neg_terms d.monomials ∙ sym (flat_operation_laws.flat_negative n p) };
      degree_is = λ n ts p d. ap (degree_terms n) d.monomials ∙ sym (flat_leading_laws.flat_degree 9 n p (omega arith) d.canon);
      length_is = λ n ts p d. ap (length_terms n) d.monomials ∙ sym (flat_leading_laws.flat_length 9 n p (omega arith) d.canon);
      zero_is = λ n ts p d. ap is_zero_terms d.monomials ∙ sym (flat_laws.flat_is_zero 9 n p d.canon);
      same_is = λ n ts us p q d e. ap₂ same_terms d.monomials e.monomials ∙ sym (flat_operation_laws.flat_same 9 n p q (omega arith) d.canon e.canon);
      same_negative_is = λ n ts us p q d e.
          ap₂ (λ u v. same_terms (neg_terms u) v) d.monomials e.monomials ∙ sym (flat_operation_laws.flat_same_negative 9 n p q (omega arith) d.canon e.canon);
    }
