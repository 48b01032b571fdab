-- A step of the division, and the remainder, by monomials. Assumes nothing.
use Rattle.std.proofs.Common.{◌≡◌, ℕ, zero, suc, ◌+◌, ◌-◌, ◌*◌, ◌^◌, ◌≤◌, Bool, true, false, cond, T, eqb, ltb, List, [], ◌∷◌, ◌++◌, length, ℤ, pos, negsuc, ◌+ℤ◌, ◌*ℤ◌, neg_ℤ, sym, refl, ap, ◌∙◌, subst, ap₂, append-nil, suc-mul, arith}
use lib.IntN.{+ℤ_comm, zero-*ℤ, neg_ℤ-neg_ℤ, neg_ℤ-+ℤ}
use Rattle.field.specs.declared.sign.Sign.{Sign}
use Rattle.field.specs.declared.sign.Sign.TheVariants.{Neg, Zero, Pos}
use Rattle.poly.specs.Poly.{Poly, from_coefs, coefs, zero_poly, trim}
use Rattle.poly.specs.Arithmetic.{sum, map_poly, product, negative}
use Rattle.poly.specs.Leading.{leading, shifted}
use Rattle.poly.specs.Modest.{modest, Checked, TooBig, Fine}
use Rattle.poly.specs.Division.{division_step, Division, divide, odd, exchanged, remainder}
use Rattle.terms.specs.Monomial.{Monomial, monomial, raised, flat, coefficient_at, Rising}
use Rattle.terms.specs.Operations.{neg_terms, scale_terms, add_product, mul_terms}
use Rattle.terms.specs.LeadingTerms.{length_terms, leading_terms}
use Rattle.terms.specs.ModestTerms.{modest_terms}
use Rattle.terms.specs.DivisionTerms.{step_terms, DivisionTerms, divide_terms, exchanged_terms, CheckedTerms, TermsTooBig, TermsFine, flat_checked, remainder_terms}
use Rattle.terms.specs.Canon.{Canon}
use Rattle.terms.proofs.Coefficients.{here, Alike, coefficient_cons, coefficient_nil, coefficient-append}
use Rattle.terms.proofs.Rises.{rising_wider, rising-raised, rising-neg, rising_unique, rising-product}
use Rattle.terms.proofs.Canons.{Canon-leading, Canon-division_step}
use Rattle.terms.proofs.Flat.{flats, flat-coefs, flat_trimmed, flat_zero, zero_is, flat_rising}
use Rattle.terms.proofs.Sums.{alike_sum, neg-append, flat_negative, all_products, alike_add_product, products-raised_left, products-raised_right, alike_times, alike_product}
use Rattle.terms.proofs.Leads.{raised_zero, raised-raised, flat_length, flat_leading}
use Rattle.terms.proofs.Modests.{flat_modest}
use Rattle.terms.proofs.Checks.{Canon-modest}

-- negatives
neg_mul : (x y : ℤ) → neg_ℤ x *ℤ y ≡ neg_ℤ (x *ℤ y)
neg_mul (pos zero) y = zero-*ℤ y ∙ sym (ap neg_ℤ (zero-*ℤ y))
neg_mul (pos (suc a)) (pos b) = refl
neg_mul (pos (suc a)) (negsuc b) = sym (neg_ℤ-neg_ℤ (pos (suc a * suc b)))
neg_mul (negsuc a) (pos b) = sym (neg_ℤ-neg_ℤ (pos (suc a * b)))
neg_mul (negsuc a) (negsuc b) = refl

coefficient-neg : (k : ℕ) (s : List Monomial) → coefficient_at k (neg_terms s) ≡ neg_ℤ (coefficient_at k s)
unfolding neg_terms
coefficient-neg k [] = coefficient_nil k ∙ sym (ap neg_ℤ (coefficient_nil k))
coefficient-neg k (m ∷ s) =
    coefficient_cons k (monomial m.key (neg_ℤ m.times)) (neg_terms s) ∙ ap₂ ◌+ℤ◌ (each (eqb m.key k)) (coefficient-neg k s) ∙ sym (ap neg_ℤ (coefficient_cons k m s) ∙ neg_ℤ-+ℤ (here k m) (coefficient_at k s))
  where
    each : (b : Bool) → cond b (neg_ℤ m.times) (pos 0) ≡ neg_ℤ (cond b m.times (pos 0))
    each true = refl
    each false = refl

alike_neg : (s t : List Monomial) → Alike s t → Alike (neg_terms s) (neg_terms t)
alike_neg s t h k = coefficient-neg k s ∙ ap neg_ℤ (h k) ∙ sym (coefficient-neg k t)

scale_neg : (d : ℕ) (x : ℤ) (s : List Monomial) → scale_terms d (neg_ℤ x) s ≡ neg_terms (scale_terms d x s)
unfolding scale_terms neg_terms
scale_neg d x [] = refl
scale_neg d x (m ∷ s) = ap₂ (λ y l. monomial (d + m.key) y ∷ l) (neg_mul x m.times) (scale_neg d x s)

products-neg : (s q : List Monomial) → all_products (neg_terms s) q ≡ neg_terms (all_products s q)
unfolding all_products neg_terms
products-neg [] q = refl
products-neg (m ∷ s) q = ap₂ ◌++◌ (scale_neg m.key m.times q) (products-neg s q) ∙ sym (neg-append (scale_terms m.key m.times q) (all_products s q))

-- zeros in front
flats_shifted : (n k : ℕ) (cs : List Poly) → flats n (shifted n k cs) ≡ raised (k * 32 ^ n) (flats n cs)
unfolding shifted flats
flats_shifted n zero cs = sym (raised_zero n (flats n cs))
flats_shifted n (suc k) cs =
    let g = 32 ^ n in
    let e : g + k * g ≡ suc k * g = omega (arith, suc-mul k g) in
    ap₂ (λ s t. s ++ raised g t) (flat_zero n (zero_poly n) (zero_is n)) (flats_shifted n k cs) ∙ raised-raised g (k * g) (flats n cs) ∙ ap (λ d. raised d (flats n cs)) e

-- the step with the nested counts
alike_step : (n k : ℕ) (c e : Poly) (p s : Poly) →
    Alike (flat (suc n) (sum (suc n) (from_coefs (trim (map_poly (product n c) (coefs s)))) (negative (suc n) (from_coefs (trim (map_poly (product n e) (shifted n k (coefs p))))))))
    (add_product (neg_terms (raised (k * 32 ^ n) (flat n e))) (flat (suc n) p) (mul_terms (flat n c) (flat (suc n) s)))
alike_step n k c e p s j =
    let g = 32 ^ n in
    let x = from_coefs (trim (map_poly (product n c) (coefs s))) in
    let y = from_coefs (trim (map_poly (product n e) (shifted n k (coefs p)))) in
    let ps = flat (suc n) p in
    let ss = flat (suc n) s in
    let xs : Alike (flat (suc n) x) (all_products (flat n c) ss) = λ i.
    ap (coefficient_at i) (flat_trimmed n (map_poly (product n c) (coefs s))) ∙ alike_times n c (alike_product n c) (coefs s) i ∙ ap (λ ts. coefficient_at i (all_products (flat n c) ts)) (sym (flat-coefs n s)) in
    let ys : Alike (flat (suc n) y) (all_products (raised (k * g) (flat n e)) ps) = λ i.
    ap (coefficient_at i) (flat_trimmed n (map_poly (product n e) (shifted n k (coefs p)))) ∙ alike_times n e (alike_product n e) (shifted n k (coefs p)) i
    ∙ ap (λ ts. coefficient_at i (all_products (flat n e) ts)) (flats_shifted n k (coefs p) ∙ ap (raised (k * g)) (sym (flat-coefs n p)))
    ∙ ap (coefficient_at i) (products-raised_right (k * g) (flat n e) ps ∙ sym (products-raised_left (k * g) (flat n e) ps)) in
    let ns : Alike (flat (suc n) (negative (suc n) y)) (all_products (neg_terms (raised (k * g) (flat n e))) ps) = λ i.
    ap (coefficient_at i) (flat_negative (suc n) y) ∙ alike_neg (flat (suc n) y) (all_products (raised (k * g) (flat n e)) ps) ys i ∙ ap (coefficient_at i) (sym (products-neg (raised (k * g) (flat n e)) ps)) in
    let ms : Alike (all_products (flat n c) ss) (mul_terms (flat n c) ss) = λ i. sym (alike_add_product (flat n c) ss [] i ∙ ap (coefficient_at i) (append-nil (all_products (flat n c) ss))) in
    let m = neg_terms (raised (k * g) (flat n e)) in
    alike_sum (suc n) x (negative (suc n) y) j
    ∙ coefficient-append j (flat (suc n) x) (flat (suc n) (negative (suc n) y))
    ∙ ap₂ ◌+ℤ◌ (xs j ∙ ms j) (ns j)
    ∙ +ℤ_comm (coefficient_at j (mul_terms (flat n c) ss)) (coefficient_at j (all_products m ps))
    ∙ sym (alike_add_product m ps (mul_terms (flat n c) ss) j ∙ coefficient-append j (all_products m ps) (mul_terms (flat n c) ss))

step-rising : (b n k : ℕ) (c e p s : Poly) → b ≤ 32 → Canon b n c → Canon b n e → Canon b (suc n) p → Canon b (suc n) s →
    Rising 0 (k * 32 ^ n + 32 ^ n + 32 ^ n + 32 ^ suc n) (add_product (neg_terms (raised (k * 32 ^ n) (flat n e))) (flat (suc n) p) (mul_terms (flat n c) (flat (suc n) s)))
step-rising b n k c e p s l dc de dp ds =
    let g = 32 ^ n in
    let h = 32 ^ suc n in
    let m : Rising 0 (g + h) (mul_terms (flat n c) (flat (suc n) s)) = rising-product 0 g h (flat n c) (flat (suc n) s) [] (flat_rising b n c l dc) (flat_rising b (suc n) s l ds) (unfold Rising in tt) in
    let r : Rising (k * g + 0) (k * g + g) (neg_terms (raised (k * g) (flat n e))) = rising-neg (k * g + 0) (k * g + g) (raised (k * g) (flat n e)) (rising-raised (k * g) 0 g (flat n e) (flat_rising b n e l de)) in
    rising-product 0 (k * g + g + g) h (neg_terms (raised (k * g) (flat n e))) (flat (suc n) p) (mul_terms (flat n c) (flat (suc n) s))
    (rising_wider (k * g + 0) (k * g + g) 0 (k * g + g + g) (neg_terms (raised (k * g) (flat n e))) (omega arith) (omega arith) r) (flat_rising b (suc n) p l dp)
    (rising_wider 0 (g + h) 0 (k * g + g + g + h) (mul_terms (flat n c) (flat (suc n) s)) (omega arith) (omega arith) m)

pub flat_division_step : (b n : ℕ) (p s : Poly) → suc b + b ≤ 32 → Canon (suc b) (suc n) p → Canon (suc b) (suc n) s → flat (suc n) (division_step n p s) ≡ step_terms n (flat (suc n) p) (flat (suc n) s)
flat_division_step b n p s l d h =
    let k = length (coefs s) - length (coefs p) in
    let g = 32 ^ n in
    let hi = k * g + g + g + 32 ^ suc n in
    let q : suc b ≤ 32 = omega arith in
    let nested = add_product (neg_terms (raised (k * g) (flat n (leading n s)))) (flat (suc n) p) (mul_terms (flat n (leading n p)) (flat (suc n) s)) in
    rising_unique 0 hi (flat (suc n) (division_step n p s)) nested
    (rising_wider 0 (32 ^ suc n) 0 hi (flat (suc n) (division_step n p s)) (omega arith) (omega arith) (flat_rising (suc b + b) (suc n) (division_step n p s) l (Canon-division_step b n p s d h)))
    (step-rising (suc b) n k (leading n p) (leading n s) p s q (Canon-leading (suc b) n p d) (Canon-leading (suc b) n s h) d h)
    (alike_step n k (leading n p) (leading n s) p s)
    ∙ ap₂ (λ i ts. add_product (neg_terms (raised (i * g) ts)) (flat (suc n) p) (mul_terms (flat n (leading n p)) (flat (suc n) s))) (ap₂ ◌-◌ (flat_length (suc b) n s q h) (flat_length (suc b) n p q d)) (flat_leading (suc b) n s q h)
    ∙ ap (λ ts. add_product (neg_terms (raised ((length_terms n (flat (suc n) s) - length_terms n (flat (suc n) p)) * g) (leading_terms n (flat (suc n) s)))) (flat (suc n) p) (mul_terms ts (flat (suc n) s))) (flat_leading (suc b) n p q d)

-- a division and its monomials
abbrev Agree : ℕ → Division → DivisionTerms → Type 0
Agree n d e = (d.good ≡ e.good) × (d.steps ≡ e.steps) × (flat (suc n) d.rest ≡ e.rest)

pub flat_divide : (fuel n : ℕ) (p s : Poly) (k : ℕ) → Canon 9 (suc n) p → Canon 9 (suc n) s →
    ((divide fuel n p s k).good ≡ (divide_terms fuel n (flat (suc n) p) (flat (suc n) s) k).good) ×
    ((divide fuel n p s k).steps ≡ (divide_terms fuel n (flat (suc n) p) (flat (suc n) s) k).steps) ×
    (flat (suc n) (divide fuel n p s k).rest ≡ (divide_terms fuel n (flat (suc n) p) (flat (suc n) s) k).rest)
unfolding divide divide_terms
flat_divide zero n p s k d h = (refl, refl, refl)
flat_divide (suc fuel) n p s k d h =
    let l : 9 ≤ 32 = omega arith in
    let l17 : 17 ≤ 32 = omega arith in
    let r = division_step n p s in
    let c : Canon 17 (suc n) r = Canon-division_step 8 n p s d h in
    let step : flat (suc n) r ≡ step_terms n (flat (suc n) p) (flat (suc n) s) = flat_division_step 8 n p s l17 d h in
    let test : ltb (length (coefs s)) (length (coefs p)) ≡ ltb (length_terms n (flat (suc n) s)) (length_terms n (flat (suc n) p)) = ap₂ ltb (flat_length 9 n s l h) (flat_length 9 n p l d) in
    let fits : modest (suc n) r ≡ modest_terms (suc n) (step_terms n (flat (suc n) p) (flat (suc n) s)) = flat_modest 17 (suc n) r l17 c ∙ ap (modest_terms (suc n)) step in
    subst (Agree n (nested (ltb (length (coefs s)) (length (coefs p))) (modest (suc n) r))) (λ i. on_terms (test i) (fits i) (step i))
    (agrees (ltb (length (coefs s)) (length (coefs p))) (modest (suc n) r) (λ t. flat_divide fuel n p r (k + 1) d (Canon-modest 17 (suc n) r c t)))
  where
    nested : (b m : Bool) → Division
    nested b m = elim b as (λ _. Division) [ true ↦ record { good = true; steps = k; rest = s } | false ↦ elim m [ true ↦ divide fuel n p (division_step n p s) (k + 1) | false ↦ record { good = false; steps = k; rest = s } ] ]

    on_terms : (b m : Bool) → List Monomial → DivisionTerms
    on_terms b m r =
        elim b as (λ _. DivisionTerms) [
          | true ↦ record { good = true; steps = k; rest = flat (suc n) s }
          | false ↦ elim m [ true ↦ divide_terms fuel n (flat (suc n) p) r (k + 1) | false ↦ record { good = false; steps = k; rest = flat (suc n) s } ]
        ]

    agrees : (b m : Bool) → (T m → Agree n (divide fuel n p (division_step n p s) (k + 1)) (divide_terms fuel n (flat (suc n) p) (flat (suc n) (division_step n p s)) (k + 1))) →
        Agree n (nested b m) (on_terms b m (flat (suc n) (division_step n p s)))
    agrees true m g = (refl, refl, refl)
    agrees false true g = g tt
    agrees false false g = (refl, refl, refl)

flat-exchanged : (n : ℕ) (b : Bool) (h : Sign) (r : Poly) → flat (suc n) (exchanged n b h r) ≡ exchanged_terms b h (flat (suc n) r)
flat-exchanged n true Neg r = flat_negative (suc n) r
flat-exchanged n true Zero r = refl
flat-exchanged n true Pos r = refl
flat-exchanged n false h r = refl

pub flat_remainder : (n : ℕ) (h : Sign) (p s : Poly) → Canon 9 (suc n) p → Canon 9 (suc n) s → flat_checked (suc n) (remainder n h p s) ≡ remainder_terms n h (flat (suc n) p) (flat (suc n) s)
flat_remainder n h p s d k =
    let ps = flat (suc n) p in
    let ss = flat (suc n) s in
    let v = divide (length (coefs s) + 1) n p s 0 in
    let same = flat_divide (length (coefs s) + 1) n p s 0 d k in
    let fuel : length (coefs s) ≡ length_terms n ss = flat_length 9 n s (omega arith) k in
    let w = divide_terms (length (coefs s) + 1) n ps ss 0 in
    kept v.good (exchanged n (odd v.steps) h v.rest)
    ∙ (λ i. result (same.0 i) ((flat-exchanged n (odd v.steps) h v.rest ∙ ap₂ (λ j r. exchanged_terms (odd j) h r) same.1 same.2) i))
    ∙ ap (λ j. result (divide_terms (j + 1) n ps ss 0).good (exchanged_terms (odd (divide_terms (j + 1) n ps ss 0).steps) h (divide_terms (j + 1) n ps ss 0).rest)) fuel
  where
    result : Bool → List Monomial → CheckedTerms
    result b r = elim b as (λ _. CheckedTerms) [ true ↦ TermsFine r | false ↦ TermsTooBig ]

    kept : (b : Bool) (q : Poly) → flat_checked (suc n) (elim b as (λ _. Checked) [ true ↦ Fine q | false ↦ TooBig ]) ≡ result b (flat (suc n) q)
    kept true q = refl
    kept false q = refl
