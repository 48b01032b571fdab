-- Modest polynomials by their monomials. Assumes nothing.
use Rattle.std.proofs.Common.{◌≡◌, ℕ, zero, suc, ◌+◌, ◌-◌, ◌*◌, ◌/◌, ◌%◌, ◌^◌, ◌<◌, ◌≤◌, Bool, true, false, cond, ◌&&◌, T, eqb, ltb, leb, List, [], ◌∷◌, ◌++◌, length, ℤ, sym, refl, ap, ◌∙◌, subst, ap₂, mul_assoc, suc-mul, pow-suc, div-one, arith, le→leb, ltb→lt, lt→ltb, leb→le, length-append}
use Rattle.poly.specs.Poly.{Poly, coefs, the_number}
use Rattle.poly.specs.Modest.{magnitude, every_by, small, total_by, number_count, modest}
use Rattle.poly.specs.Leading.{last_or}
use Rattle.terms.specs.Monomial.{Monomial, raised, constant_terms, flat, Rising}
use Rattle.terms.specs.LeadingTerms.{last_key, degree_terms, length_terms}
use Rattle.terms.specs.ModestTerms.{small_key, small_terms, last_digits, count_terms, modest_terms}
use Rattle.terms.specs.Canon.{Trimmed, AllOf, Canon}
use Rattle.terms.specs.Sizes.{SizesAtMost}
use Rattle.terms.proofs.Tests.{T-same, T_true, T-both, both_T, eq→eqb, eqb_apart, eqb_same}
use Rattle.terms.proofs.Rises.{rising_wider}
use Rattle.terms.proofs.Flat.{flats, flat-coefs, constant_cases, zero_flat, flat_rising, rising_list, rising-others}
use Rattle.terms.proofs.Sums.{raised-append}
use Rattle.terms.proofs.Leads.{raised_zero, raised-raised, last_not_zero, lead}

-- digits
and_left_comm : (a b c : Bool) → a && (b && c) ≡ b && (a && c)
and_left_comm true true c = refl
and_left_comm true false c = refl
and_left_comm false true c = refl
and_left_comm false false c = refl

pub small_key-digits : (n j k : ℕ) → j < 32 → k < 32 ^ n → small_key (suc n) (j * 32 ^ n + k) ≡ ltb j 9 && small_key n k
unfolding small_key
small_key-digits zero j k l h = ap (λ i. ltb i 9 && true) (omega arith)
small_key-digits (suc n) j k l h =
    let t = j * 32 ^ n in
    let p : 32 ^ suc n ≡ 32 ^ n * 32 = pow-suc 32 n in
    let y : j * 32 ^ suc n ≡ t * 32 = ap (λ i. j * i) p ∙ sym (mul_assoc j (32 ^ n) 32) in
    let low : (j * 32 ^ suc n + k) % 32 ≡ k % 32 = omega arith in
    let high : (j * 32 ^ suc n + k) / 32 ≡ t + k / 32 = omega arith in
    ap₂ (λ u v. ltb u 9 && small_key (suc n) v) low high ∙ ap (λ b. ltb (k % 32) 9 && b) (small_key-digits n j (k / 32) l (omega arith)) ∙ and_left_comm (ltb (k % 32) 9) (ltb j 9) (small_key n (k / 32))

-- one coefficient, that of the power j
small-raised : (n j lo : ℕ) (s : List Monomial) → j < 9 → Rising lo (32 ^ n) s → T (small_terms n s) → T (small_terms (suc n) (raised (j * 32 ^ n) s))
unfolding small_terms raised Rising
small-raised n j lo [] l r t = tt
small-raised n j lo (m ∷ s) l r t =
    let (a, ts) = T-both (ltb (magnitude m.times) (2 ^ 27) && small_key n m.key) (small_terms n s) t in
    let (tm, tk) = T-both (ltb (magnitude m.times) (2 ^ 27)) (small_key n m.key) a in
    let key : T (small_key (suc n) (j * 32 ^ n + m.key)) = subst T (sym (small_key-digits n j m.key (omega arith) r.1)) (both_T (ltb j 9) (small_key n m.key) (lt→ltb j 9 l) tk) in
    both_T (ltb (magnitude m.times) (2 ^ 27) && small_key (suc n) (j * 32 ^ n + m.key)) (small_terms (suc n) (raised (j * 32 ^ n) s)) (both_T (ltb (magnitude m.times) (2 ^ 27)) (small_key (suc n) (j * 32 ^ n + m.key)) tm key) (small-raised n j (suc m.key) s l r.3 ts)

small-lowered : (n j lo : ℕ) (s : List Monomial) → j < 32 → Rising lo (32 ^ n) s → T (small_terms (suc n) (raised (j * 32 ^ n) s)) → T (small_terms n s) × ((s ≡ [] → ⊥) → j < 9)
unfolding small_terms raised Rising
small-lowered n j lo [] l r t = (tt, λ h. absurd (h refl))
small-lowered n j lo (m ∷ s) l r t =
    let (a, ts) = T-both (ltb (magnitude m.times) (2 ^ 27) && small_key (suc n) (j * 32 ^ n + m.key)) (small_terms (suc n) (raised (j * 32 ^ n) s)) t in
    let (tm, tk) = T-both (ltb (magnitude m.times) (2 ^ 27)) (small_key (suc n) (j * 32 ^ n + m.key)) a in
    let (tj, tl) = T-both (ltb j 9) (small_key n m.key) (subst T (small_key-digits n j m.key l r.1) tk) in
    let ih = small-lowered n j (suc m.key) s l r.3 ts in
    (both_T (ltb (magnitude m.times) (2 ^ 27) && small_key n m.key) (small_terms n s) (both_T (ltb (magnitude m.times) (2 ^ 27)) (small_key n m.key) tm tl) ih.0, λ h. ltb→lt j 9 tj)

small-append : (n : ℕ) (s t : List Monomial) → T (small_terms n s) → T (small_terms n t) → T (small_terms n (s ++ t))
unfolding small_terms
small-append n [] t h k = k
small-append n (m ∷ s) t h k =
    let a = ltb (magnitude m.times) (2 ^ 27) && small_key n m.key in
    let (ta, ts) = T-both a (small_terms n s) h in
    both_T a (small_terms n (s ++ t)) ta (small-append n s t ts k)

append-small : (n : ℕ) (s t : List Monomial) → T (small_terms n (s ++ t)) → T (small_terms n s) × T (small_terms n t)
unfolding small_terms
append-small n [] t h = (tt, h)
append-small n (m ∷ s) t h =
    let a = ltb (magnitude m.times) (2 ^ 27) && small_key n m.key in
    let (ta, ts) = T-both a (small_terms n (s ++ t)) h in
    let (hs, ht) = append-small n s t ts in
    (both_T a (small_terms n s) ta hs, ht)

-- the coefficients from the power j on
raised_flats : (n j : ℕ) (c : Poly) (cs : List Poly) → raised (j * 32 ^ n) (flats n (c ∷ cs)) ≡ raised (j * 32 ^ n) (flat n c) ++ raised (suc j * 32 ^ n) (flats n cs)
unfolding flats
raised_flats n j c cs =
    let g = 32 ^ n in
    let e : j * g + g ≡ suc j * g = omega (arith, suc-mul j g) in
    raised-append (j * g) (flat n c) (raised g (flats n cs)) ∙ ap (λ l. raised (j * g) (flat n c) ++ l) (raised-raised (j * g) g (flats n cs) ∙ ap (λ i. raised i (flats n cs)) e)

small_flats : (b n j : ℕ) (cs : List Poly) → b ≤ 32 → ((c : Poly) → Canon b n c → T (small n c) → T (small_terms n (flat n c))) → AllOf (Canon b n) cs → j + length cs ≤ 9 → T (every_by (small n) cs) →
    T (small_terms (suc n) (raised (j * 32 ^ n) (flats n cs)))
unfolding AllOf every_by
small_flats b n j [] l h d m t = unfold flats raised small_terms in tt
small_flats b n j (c ∷ cs) l h d m t =
    let (tc, ts) = T-both (small n c) (every_by (small n) cs) t in
    subst (λ l. T (small_terms (suc n) l)) (sym (raised_flats n j c cs))
    (small-append (suc n) (raised (j * 32 ^ n) (flat n c)) (raised (suc j * 32 ^ n) (flats n cs)) (small-raised n j 0 (flat n c) (omega arith) (flat_rising b n c l d.0) (h c d.0 tc)) (small_flats b n (suc j) cs l h d.1 (omega arith) ts))

flats_small : (b n j : ℕ) (cs : List Poly) → b ≤ 32 → ((c : Poly) → Canon b n c → T (small_terms n (flat n c)) → T (small n c)) → AllOf (Canon b n) cs → j + length cs ≤ 32 →
    T (small_terms (suc n) (raised (j * 32 ^ n) (flats n cs))) → T (every_by (small n) cs)
unfolding AllOf every_by
flats_small b n j [] l h d m t = tt
flats_small b n j (c ∷ cs) l h d m t =
    let (tc, ts) = append-small (suc n) (raised (j * 32 ^ n) (flat n c)) (raised (suc j * 32 ^ n) (flats n cs)) (subst (λ l. T (small_terms (suc n) l)) (raised_flats n j c cs) t) in
    both_T (small n c) (every_by (small n) cs) (h c d.0 (small-lowered n j 0 (flat n c) (omega arith) (flat_rising b n c l d.0) tc).0) (flats_small b n (suc j) cs l h d.1 (omega arith) ts)

flats_short : (b n j : ℕ) (c : Poly) (cs : List Poly) → b ≤ 32 → AllOf (Canon b n) (c ∷ cs) → Trimmed (c ∷ cs) → j + suc (length cs) ≤ 32 → T (small_terms (suc n) (raised (j * 32 ^ n) (flats n (c ∷ cs)))) → j + suc (length cs) ≤ 9
unfolding AllOf Trimmed
flats_short b n j c [] l d r m t =
    let (tc, ts) = append-small (suc n) (raised (j * 32 ^ n) (flat n c)) (raised (suc j * 32 ^ n) (flats n [])) (subst (λ l. T (small_terms (suc n) l)) (raised_flats n j c []) t) in
    let g = (small-lowered n j 0 (flat n c) (omega arith) (flat_rising b n c l d.0) tc).1 (λ e. last_not_zero c [] r (unfold last_or in zero_flat b n c d.0 e)) in
    omega arith
flats_short b n j c (e ∷ cs) l d r m t =
    let (tc, ts) = append-small (suc n) (raised (j * 32 ^ n) (flat n c)) (raised (suc j * 32 ^ n) (flats n (e ∷ cs))) (subst (λ l. T (small_terms (suc n) l)) (raised_flats n j c (e ∷ cs)) t) in
    let ih = flats_short b n (suc j) e cs l d.1 r.1 (omega arith) ts in
    omega arith

small-constant : (z : ℤ) → ltb (magnitude z) (2 ^ 27) ≡ small_terms 0 (constant_terms z)
unfolding small_terms small_key
small-constant z =
    constant_cases z (λ ts. ltb (magnitude z) (2 ^ 27) ≡ small_terms 0 ts) (λ e. ap (λ x. ltb (magnitude x) (2 ^ 27)) e) (λ h. plain (ltb (magnitude z) (2 ^ 27)))
  where
    plain : (b : Bool) → b ≡ b && true && true
    plain true = refl
    plain false = refl

pub flat_small : (b n : ℕ) (p : Poly) → b ≤ 32 → Canon b n p → small n p ≡ small_terms n (flat n p)
unfolding Canon small
flat_small b zero p l d = unfold flat in small-constant (the_number p)
flat_small b (suc n) p l d =
    T-same (leb (length (coefs p)) 9 && every_by (small n) (coefs p)) (small_terms (suc n) (flat (suc n) p))
    (λ t.
    let (tl, te) = T-both (leb (length (coefs p)) 9) (every_by (small n) (coefs p)) t in
    subst (λ ts. T (small_terms (suc n) ts)) (raised_zero n (flats n (coefs p)) ∙ sym (flat-coefs n p))
    (small_flats b n 0 (coefs p) l (λ c k. subst T (flat_small b n c l k)) d.3 (let h = leb→le (length (coefs p)) 9 tl in omega arith) te))
    (λ t.
    let ts : T (small_terms (suc n) (raised (0 * 32 ^ n) (flats n (coefs p)))) = subst (λ ts. T (small_terms (suc n) ts)) (flat-coefs n p ∙ sym (raised_zero n (flats n (coefs p)))) t in
    both_T (leb (length (coefs p)) 9) (every_by (small n) (coefs p)) (le→leb (length (coefs p)) 9 (short b n (coefs p) l d.3 d.2 (omega (arith, d.1)) ts))
    (flats_small b n 0 (coefs p) l (λ c k. subst T (sym (flat_small b n c l k))) d.3 (omega (arith, d.1)) ts))
  where
    short : (b n : ℕ) (cs : List Poly) → b ≤ 32 → AllOf (Canon b n) cs → Trimmed cs → length cs ≤ 32 → T (small_terms (suc n) (raised (0 * 32 ^ n) (flats n cs))) → length cs ≤ 9
    short b n [] l d r m t = omega arith
    short b n (c ∷ cs) l d r m t = let g = flats_short b n 0 c cs l d r (omega arith) t in omega arith

-- how many numbers there are
digits_append : (lo x hi : ℕ) (s t : List Monomial) → Rising lo (x * 32) s → Rising (x * 32) hi t → last_digits (s ++ t) ≡ last_digits s + last_digits t
unfolding last_digits Rising
digits_append lo x hi [] t r q = omega arith
digits_append lo x hi (m ∷ []) [] r q = omega arith
digits_append lo x hi (m ∷ []) (k ∷ t) r q = ap (λ b. cond b 0 (m.key % 32 + 1) + last_digits (k ∷ t)) (eqb_apart (m.key / 32) (k.key / 32) (λ e. omega (arith, r.1, q.0)))
digits_append lo x hi (m ∷ k ∷ s) t r q =
    let ih = digits_append (suc m.key) x hi (k ∷ s) t r.3 q in
    let c = cond (eqb (m.key / 32) (k.key / 32)) 0 (m.key % 32 + 1) in
    omega arith

digits-raised : (x : ℕ) (s : List Monomial) → last_digits (raised (x * 32) s) ≡ last_digits s
unfolding last_digits raised
digits-raised x [] = refl
digits-raised x (m ∷ []) = omega arith
digits-raised x (m ∷ k ∷ s) =
    let low : (x * 32 + m.key) % 32 ≡ m.key % 32 = omega arith in
    let a : (x * 32 + m.key) / 32 ≡ x + m.key / 32 = omega arith in
    let b : (x * 32 + k.key) / 32 ≡ x + k.key / 32 = omega arith in
    ap₂ (λ c d. cond c 0 (d + 1) + last_digits (raised (x * 32) (k ∷ s))) (ap₂ eqb a b ∙ eqb_same (x + m.key / 32) (x + k.key / 32) (m.key / 32) (k.key / 32) (λ e. omega arith) (λ e. omega arith)) low
    ∙ ap (λ i. cond (eqb (m.key / 32) (k.key / 32)) 0 (m.key % 32 + 1) + i) (digits-raised x (k ∷ s))

digits-run : (lo : ℕ) (m : Monomial) (s : List Monomial) → Rising lo 32 (m ∷ s) → last_digits (m ∷ s) ≡ suc (last_key (m ∷ s))
unfolding last_digits last_key Rising
digits-run lo m [] r = omega (arith, r.1)
digits-run lo m (k ∷ s) r =
    ap (λ b. cond b 0 (m.key % 32 + 1) + last_digits (k ∷ s)) (T_true (eqb (m.key / 32) (k.key / 32)) (eq→eqb (m.key / 32) (k.key / 32) (omega (arith, r.1, r.3.1)))) ∙ (let ih = digits-run (suc m.key) k s r.3 in omega arith)

count_flats : (b n : ℕ) (cs : List Poly) → b ≤ 32 → ((c : Poly) → Canon b (suc n) c → number_count (suc n) c ≡ last_digits (flat (suc n) c)) → AllOf (Canon b (suc n)) cs →
    total_by (number_count (suc n)) cs ≡ last_digits (flats (suc n) cs)
unfolding total_by AllOf flats
count_flats b n [] l h d = unfold last_digits in refl
count_flats b n (c ∷ cs) l h d =
    let g = 32 ^ suc n in
    let e : g ≡ 32 ^ n * 32 = pow-suc 32 n in
    let s = flat (suc n) c in
    let t = flats (suc n) cs in
    ap₂ ◌+◌ (h c d.0) (count_flats b n cs l h d.1)
    ∙ sym (digits_append 0 (32 ^ n) (g + length cs * g) s (raised g t) (subst (λ i. Rising 0 i s) e (flat_rising b (suc n) c l d.0)) (subst (λ i. Rising i (g + length cs * g) (raised g t)) e (rising-others b (suc n) cs l d.1))
    ∙ ap (λ i. last_digits s + i) (ap (λ i. last_digits (raised i t)) e ∙ digits-raised (32 ^ n) t))

length_total : (cs : List Poly) → total_by (number_count 0) cs ≡ length cs
unfolding total_by number_count
length_total [] = refl
length_total (c ∷ cs) = let ih = length_total cs in omega arith

count_first : (b : ℕ) (cs : List Poly) → b ≤ 32 → AllOf (Canon b 0) cs → Trimmed cs → length cs ≤ b → length cs ≡ last_digits (flats 0 cs)
count_first b [] l d t m = unfold flats last_digits in refl
count_first b (c ∷ cs) l d t m = go (flats 0 (c ∷ cs)) refl
  where
    go : (ts : List Monomial) → flats 0 (c ∷ cs) ≡ ts → suc (length cs) ≡ last_digits (flats 0 (c ∷ cs))
    go [] e = let h = sym (lead b 0 c cs l d t).length_is ∙ ap (length_terms 0) e in absurd (omega arith)
    go (k ∷ ts) e =
        let r : Rising 0 32 (k ∷ ts) = subst (Rising 0 32) e (rising_wider 0 (suc (length cs) * 1) 0 32 (flats 0 (c ∷ cs)) (omega arith) (omega arith) (rising_list b 0 (c ∷ cs) l d)) in
        let h : last_key (k ∷ ts) / 1 ≡ length cs = sym (ap (degree_terms 0) e) ∙ (lead b 0 c cs l d t).degree_is in
        let last : last_key (k ∷ ts) ≡ length cs = sym (div-one (last_key (k ∷ ts))) ∙ h in
        sym (ap last_digits e ∙ digits-run 0 k ts r ∙ ap suc last)

pub flat_count : (b n : ℕ) (p : Poly) → b ≤ 32 → Canon b n p → number_count n p ≡ count_terms n (flat n p)
unfolding Canon number_count
flat_count b zero p l d = refl
flat_count b (suc zero) p l d = length_total (coefs p) ∙ count_first b (coefs p) l d.3 d.2 d.1 ∙ ap last_digits (sym (flat-coefs zero p))
flat_count b (suc (suc n)) p l d = count_flats b n (coefs p) l (λ c. flat_count b (suc n) c l) d.3 ∙ ap last_digits (sym (flat-coefs (suc n) p))

pub flat_modest : (b n : ℕ) (p : Poly) → b ≤ 32 → Canon b n p → modest n p ≡ modest_terms n (flat n p)
flat_modest b n p l d = ap₂ (λ s c. s && leb c 64) (flat_small b n p l d) (flat_count b n p l d)

-- at most 64 monomials, with coefficients below 2^27
length-raised : (d : ℕ) (s : List Monomial) → length (raised d s) ≡ length s
unfolding raised
length-raised d [] = refl
length-raised d (m ∷ s) = ap suc (length-raised d s)

length_flats : (n : ℕ) → ((c : Poly) → length (flat n c) ≤ number_count n c) → (cs : List Poly) → length (flats n cs) ≤ total_by (number_count n) cs
unfolding flats total_by
length_flats n h [] = omega arith
length_flats n h (c ∷ cs) = let ih = length_flats n h cs in omega (arith, h c, length-append (flat n c) (raised (32 ^ n) (flats n cs)), length-raised (32 ^ n) (flats n cs))

pub length-flat : (n : ℕ) (p : Poly) → length (flat n p) ≤ number_count n p
unfolding number_count
length-flat zero p = unfold flat in constant_cases (the_number p) (λ ts. length ts ≤ 1) (λ _. omega arith) (λ _. omega arith)
length-flat (suc n) p = subst (λ ts. length ts ≤ total_by (number_count n) (coefs p)) (sym (flat-coefs n p)) (length_flats n (length-flat n) (coefs p))

pub modest_length : (n : ℕ) (p : Poly) → T (modest n p) → length (flat n p) ≤ 64
modest_length n p t = let (s, c) = T-both (small n p) (leb (number_count n p) 64) t in let h = leb→le (number_count n p) 64 c in omega (arith, length-flat n p)

small-sizes : (n : ℕ) (ts : List Monomial) → T (small_terms n ts) → SizesAtMost (2 ^ 27 - 1) ts
unfolding small_terms SizesAtMost
small-sizes n [] t = tt
small-sizes n (m ∷ ts) t =
    let (a, s) = T-both (ltb (magnitude m.times) (2 ^ 27) && small_key n m.key) (small_terms n ts) t in
    let h = ltb→lt (magnitude m.times) (2 ^ 27) (T-both (ltb (magnitude m.times) (2 ^ 27)) (small_key n m.key) a).0 in
    (omega arith, small-sizes n ts s)

pub modest_sizes : (n : ℕ) (ts : List Monomial) → T (modest_terms n ts) → SizesAtMost (2 ^ 27 - 1) ts
modest_sizes n ts t = small-sizes n ts (T-both (small_terms n ts) (leb (count_terms n ts) 64) t).0
