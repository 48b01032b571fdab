-- The monomials of constants and variables, and equality of polynomials by their monomials. Assumes nothing.
use Rattle.std.proofs.Common.{◌≡◌, ℕ, zero, suc, ◌+◌, ◌-◌, ◌^◌, ◌≤◌, Bool, true, false, ◌&&◌, T, eqb, ltb, List, [], ◌∷◌, ◌++◌, ℤ, pos, ◌+ℤ◌, neg_ℤ, sym, refl, ap, ◌∙◌, subst, ap₂, append-nil, arith, eqb→eq, lt→ltb}
use lib.Dec.{leb-suc-zero}
use lib.IntN.{+ℤ_invr, +ℤ_invl, +ℤ_comm}
use Rattle.poly.specs.Poly.{Poly, Number, from_coefs, coefs, the_number, is_zero_number, zero_poly}
use Rattle.poly.specs.Arithmetic.{constant, variable, negative, same_by, same}
use Rattle.poly.proofs.Depth.{Depth-number}
use Rattle.terms.specs.Monomial.{Monomial, monomial, raised, constant_terms, flat}
use Rattle.terms.specs.Operations.{neg_terms, variable_terms, same_terms}
use Rattle.terms.specs.Canon.{AllOf, Canon}
use Rattle.terms.proofs.Tests.{T-same, T_true, T-both, both_T, eq→eqb, ltb-same}
use Rattle.terms.proofs.Integers.{add_cancel, is_zero_lem}
use Rattle.terms.proofs.Canons.{Canon-negative}
use Rattle.terms.proofs.Flat.{flats, flat-from_coefs, flat_trimmed, flat_zero, zero_is, flat_unique}
use Rattle.terms.proofs.Sums.{flat_negative}

pub flats_one : (n : ℕ) (c : Poly) → flats n (c ∷ []) ≡ flat n c
unfolding flats raised
flats_one n c = append-nil (flat n c)

pub flat_constant : (n : ℕ) (z : ℤ) → flat n (constant n z) ≡ constant_terms z
unfolding constant
flat_constant zero z = unfold flat in refl
flat_constant (suc n) z = flat_trimmed n (constant n z ∷ []) ∙ flats_one n (constant n z) ∙ flat_constant n z

first_variable : (n : ℕ) → flats n (zero_poly n ∷ constant n (pos 1) ∷ []) ≡ monomial (32 ^ n) (pos 1) ∷ []
unfolding flats
first_variable n =
    ap₂ (λ s t. s ++ raised (32 ^ n) t) (flat_zero n (zero_poly n) (zero_is n)) (flats_one n (constant n (pos 1)) ∙ flat_constant n (pos 1))
    ∙ up (32 ^ n) ∙ ap (λ k. monomial k (pos 1) ∷ []) (omega arith)
  where
    up : (d : ℕ) → raised d (constant_terms (pos 1)) ≡ monomial (d + 0) (pos 1) ∷ []
    up d = unfold raised constant_terms in refl

variable-next : (n i : ℕ) → variable_terms n i ≡ variable_terms (suc n) (suc i)
unfolding variable_terms
variable-next n i =
    let e : n - suc i ≡ suc n - suc (suc i) = omega arith in
    ap₂ (λ b k. elim b as (λ _. List Monomial) [ true ↦ monomial (32 ^ k) (pos 1) ∷ [] | false ↦ [] ]) (ltb-same i n (suc i) (suc n) (λ l. omega arith) (λ l. omega arith)) e

variable_first : (n : ℕ) → variable_terms (suc n) 0 ≡ monomial (32 ^ n) (pos 1) ∷ []
unfolding variable_terms
variable_first n =
    let e : suc n - suc 0 ≡ n = omega arith in
    ap₂ (λ b k. elim b as (λ _. List Monomial) [ true ↦ monomial (32 ^ k) (pos 1) ∷ [] | false ↦ [] ]) (T_true (ltb 0 (suc n)) (lt→ltb 0 (suc n) (omega arith))) e

variable_none : (i : ℕ) → variable_terms 0 i ≡ []
unfolding variable_terms
variable_none i = ap (λ b. elim b as (λ _. List Monomial) [ true ↦ monomial (32 ^ (0 - suc i)) (pos 1) ∷ [] | false ↦ [] ]) (leb-suc-zero i)

pub flat_variable : (n i : ℕ) → flat n (variable n i) ≡ variable_terms n i
unfolding variable
flat_variable zero i = flat_zero zero (Number (pos 0)) tt ∙ sym (variable_none i)
flat_variable (suc n) zero = flat-from_coefs n (zero_poly n ∷ constant n (pos 1) ∷ []) ∙ first_variable n ∙ sym (variable_first n)
flat_variable (suc n) (suc i) = flat_trimmed n (variable n i ∷ []) ∙ flats_one n (variable n i) ∙ flat_variable n i ∙ variable-next n i

-- equality
pub zero_difference : (x y : ℤ) → T (is_zero_number (x +ℤ neg_ℤ y)) → x ≡ y
zero_difference x y t = add_cancel (neg_ℤ y) x y (+ℤ_comm (neg_ℤ y) x ∙ is_zero_lem (x +ℤ neg_ℤ y) t ∙ sym (+ℤ_invl y))

no_difference : (x : ℤ) → T (is_zero_number (x +ℤ neg_ℤ x))
no_difference x = subst (λ z. T (is_zero_number z)) (sym (+ℤ_invr x)) tt

pub same_terms-equal : (s t : List Monomial) → T (same_terms s t) → s ≡ t
unfolding same_terms
same_terms-equal [] [] h = refl
same_terms-equal [] (b ∷ t) h = absurd h
same_terms-equal (a ∷ s) [] h = absurd h
same_terms-equal (a ∷ s) (b ∷ t) h =
    let (ab, st) = T-both (eqb a.key b.key && is_zero_number (a.times +ℤ neg_ℤ b.times)) (same_terms s t) h in
    let (k, x) = T-both (eqb a.key b.key) (is_zero_number (a.times +ℤ neg_ℤ b.times)) ab in
    ap₂ ◌∷◌ (ap₂ monomial (eqb→eq a.key b.key k) (zero_difference a.times b.times x)) (same_terms-equal s t st)

pub same_terms_refl : (s : List Monomial) → T (same_terms s s)
unfolding same_terms
same_terms_refl [] = tt
same_terms_refl (a ∷ s) =
    both_T (eqb a.key a.key && is_zero_number (a.times +ℤ neg_ℤ a.times)) (same_terms s s)
    (both_T (eqb a.key a.key) (is_zero_number (a.times +ℤ neg_ℤ a.times)) (eq→eqb a.key a.key refl) (no_difference a.times)) (same_terms_refl s)

same_by-equal : (P : Poly → Type 0) (f : Poly → Poly → Bool) → ((x y : Poly) → P x → P y → T (f x y) → x ≡ y) → (p q : List Poly) → AllOf P p → AllOf P q → T (same_by f p q) → p ≡ q
unfolding AllOf same_by
same_by-equal P f h [] [] d k t = refl
same_by-equal P f h [] (y ∷ q) d k t = absurd t
same_by-equal P f h (x ∷ p) [] d k t = absurd t
same_by-equal P f h (x ∷ p) (y ∷ q) d k t = let (s, r) = T-both (f x y) (same_by f p q) t in ap₂ ◌∷◌ (h x y d.0 k.0 s) (same_by-equal P f h p q d.1 k.1 r)

same-equal : (b n : ℕ) (p q : Poly) → Canon b n p → Canon b n q → T (same n p q) → p ≡ q
unfolding Canon same
same-equal b zero p q d k t = Depth-number p d ∙ ap Number (zero_difference (the_number p) (the_number q) t) ∙ sym (Depth-number q k)
same-equal b (suc n) p q d k t = d.0 ∙ ap from_coefs (same_by-equal (Canon b n) (same n) (same-equal b n) (coefs p) (coefs q) d.3 k.3 t) ∙ sym k.0

same_by_refl : (f : Poly → Poly → Bool) → ((x : Poly) → T (f x x)) → (p : List Poly) → T (same_by f p p)
unfolding same_by
same_by_refl f h [] = tt
same_by_refl f h (x ∷ p) = both_T (f x x) (same_by f p p) (h x) (same_by_refl f h p)

same_refl : (n : ℕ) (p : Poly) → T (same n p p)
unfolding same
same_refl zero p = no_difference (the_number p)
same_refl (suc n) p = same_by_refl (same n) (same_refl n) (coefs p)

pub flat_same : (b n : ℕ) (p q : Poly) → b ≤ 32 → Canon b n p → Canon b n q → same n p q ≡ same_terms (flat n p) (flat n q)
flat_same b n p q l d k =
    T-same (same n p q) (same_terms (flat n p) (flat n q)) (λ t. subst (λ r. T (same_terms (flat n p) (flat n r))) (same-equal b n p q d k t) (same_terms_refl (flat n p)))
    (λ t. subst (λ r. T (same n p r)) (flat_unique b n p q l d k (same_terms-equal (flat n p) (flat n q) t)) (same_refl n p))

pub flat_same_negative : (b n : ℕ) (p q : Poly) → b ≤ 32 → Canon b n p → Canon b n q → same n (negative n p) q ≡ same_terms (neg_terms (flat n p)) (flat n q)
flat_same_negative b n p q l d k = flat_same b n (negative n p) q l (Canon-negative b n p d) k ∙ ap (λ ts. same_terms ts (flat n q)) (flat_negative n p)
