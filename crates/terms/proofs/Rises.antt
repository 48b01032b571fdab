-- Lists of monomials with rising keys: what keeps them so, and that their coefficients determine them. Assumes nothing.
use Rattle.std.proofs.Common.{◌≡◌, ℕ, suc, ◌+◌, ◌<◌, ◌≤◌, cond, eqb, List, [], ◌∷◌, ◌++◌, ℤ, pos, ◌+ℤ◌, sym, refl, ap, ◌∙◌, subst, ap₂, arith}
use lib.IntN.{+ℤ_idr}
use Rattle.terms.specs.Monomial.{Monomial, monomial, raised, coefficient_at, Rising}
use Rattle.terms.specs.Operations.{merge_term, add_terms, neg_terms, scale_terms, add_product}
use Rattle.terms.proofs.Tests.{eq→eqb, T_true, by_less}
use Rattle.terms.proofs.Integers.{NotZero, add_cancel, not_zero, not_zero_neg, not_zero_mul}
use Rattle.terms.proofs.Coefficients.{here, Alike, coefficient_cons, coefficient_nil, here_apart, merge_cases, put_cases}

pub rising_wider : (lo hi lo' hi' : ℕ) (s : List Monomial) → lo' ≤ lo → hi ≤ hi' → Rising lo hi s → Rising lo' hi' s
unfolding Rising
rising_wider lo hi lo' hi' [] l h r = tt
rising_wider lo hi lo' hi' (m ∷ s) l h r = (omega arith, omega arith, r.2, rising_wider (suc m.key) hi (suc m.key) hi' s (omega arith) h r.3)

pub rising-raised : (d lo hi : ℕ) (s : List Monomial) → Rising lo hi s → Rising (d + lo) (d + hi) (raised d s)
unfolding Rising raised
rising-raised d lo hi [] r = tt
rising-raised d lo hi (m ∷ s) r =
    (omega arith, omega arith, r.2, rising_wider (d + suc m.key) (d + hi) (suc (d + m.key)) (d + hi) (raised d s) (omega arith) (omega arith) (rising-raised d (suc m.key) hi s r.3))

pub rising-append : (lo mid hi : ℕ) (s t : List Monomial) → lo ≤ mid → mid ≤ hi → Rising lo mid s → Rising mid hi t → Rising lo hi (s ++ t)
unfolding Rising
rising-append lo mid hi [] t l h r q = rising_wider mid hi lo hi t l (omega arith) q
rising-append lo mid hi (m ∷ s) t l h r q = (r.0, omega arith, r.2, rising-append (suc m.key) mid hi s t (omega arith) h r.3 q)

pub rising-neg : (lo hi : ℕ) (s : List Monomial) → Rising lo hi s → Rising lo hi (neg_terms s)
unfolding Rising neg_terms
rising-neg lo hi [] r = tt
rising-neg lo hi (m ∷ s) r = (r.0, r.1, not_zero_neg m.times r.2, rising-neg (suc m.key) hi s r.3)

pub rising_scale : (d lo hi : ℕ) (x : ℤ) (s : List Monomial) → NotZero x → Rising lo hi s → Rising (d + lo) (d + hi) (scale_terms d x s)
unfolding Rising scale_terms
rising_scale d lo hi x [] h r = tt
rising_scale d lo hi x (m ∷ s) h r = (
  omega arith,
  omega arith,
  not_zero_mul x m.times h r.2,
  rising_wider (d + suc m.key) (d + hi) (suc (d + m.key)) (d + hi) (scale_terms d x s) (omega arith) (omega arith) (rising_scale d (suc m.key) hi x s h r.3),
)

rising_merge : (hi : ℕ) (a : Monomial) (p : List Monomial) (f : List Monomial → List Monomial) → ((lo : ℕ) (t : List Monomial) → Rising lo hi p → Rising lo hi t → Rising lo hi (f t)) →
    (lo : ℕ) (t : List Monomial) → Rising lo hi (a ∷ p) → Rising lo hi t → Rising lo hi (merge_term a f t)
unfolding Rising merge_term
rising_merge hi a p f h lo [] r q = (r.0, r.1, r.2, h (suc a.key) [] r.3 tt)
rising_merge hi a p f h lo (b ∷ t) r q =
    let ih : b.key < a.key → Rising (suc b.key) hi (merge_term a f t) = λ l. rising_merge hi a p f h (suc b.key) t (l, r.1, r.2, r.3) q.3 in
    merge_cases a b f t (Rising lo hi)
    (λ l. (r.0, r.1, r.2, h (suc a.key) (b ∷ t) r.3 (l, q.1, q.2, q.3)))
    (λ l. (q.0, q.1, q.2, ih l))
    (λ e.
    let g : Rising (suc a.key) hi (f t) = h (suc a.key) t r.3 (subst (λ k. Rising (suc k) hi t) (sym e) q.3) in
    put_cases (monomial a.key (a.times +ℤ b.times)) (f t) (Rising lo hi) (λ z. rising_wider (suc a.key) hi lo hi (f t) (omega (arith, r.0)) (omega arith) g) (λ z. (r.0, r.1, z, g)))

pub rising-add : (lo hi : ℕ) (s t : List Monomial) → Rising lo hi s → Rising lo hi t → Rising lo hi (add_terms s t)
unfolding Rising add_terms
rising-add lo hi [] t r q = q
rising-add lo hi (a ∷ p) t r q = rising_merge hi a p (add_terms p) (λ lo t. rising-add lo hi p t) lo t r q

-- a product, added to what has keys below the sum of the bounds
pub rising-product : (lo a b : ℕ) (p q acc : List Monomial) → Rising lo a p → Rising 0 b q → Rising 0 (a + b) acc → Rising 0 (a + b) (add_product p q acc)
unfolding Rising add_product
rising-product lo a b [] q acc r h k = k
rising-product lo a b (m ∷ p) q acc r h k =
    rising-add 0 (a + b) (scale_terms m.key m.times q) (add_product p q acc)
    (rising_wider (m.key + 0) (m.key + b) 0 (a + b) (scale_terms m.key m.times q) (omega arith) (omega (arith, r.1)) (rising_scale m.key 0 b m.times q r.2 h))
    (rising-product (suc m.key) a b p q acc r.3 h k)

pub coefficient-under : (k lo hi : ℕ) (s : List Monomial) → k < lo → Rising lo hi s → coefficient_at k s ≡ pos 0
unfolding Rising
coefficient-under k lo hi [] l r = coefficient_nil k
coefficient-under k lo hi (m ∷ s) l r =
    coefficient_cons k m s ∙ ap₂ ◌+ℤ◌ (here_apart k m (λ e. omega (arith, r.0))) (coefficient-under k (suc m.key) hi s (omega (arith, r.0)) r.3)

here_own : (m : Monomial) → here m.key m ≡ m.times
here_own m = ap (λ b. cond b m.times (pos 0)) (T_true (eqb m.key m.key) (eq→eqb m.key m.key refl))

-- the first coefficient
coefficient_first : (lo hi : ℕ) (m : Monomial) (s : List Monomial) → Rising lo hi (m ∷ s) → coefficient_at m.key (m ∷ s) ≡ m.times
unfolding Rising
coefficient_first lo hi m s r = coefficient_cons m.key m s ∙ ap₂ ◌+ℤ◌ (here_own m) (coefficient-under m.key (suc m.key) hi s (omega arith) r.3) ∙ +ℤ_idr m.times

-- where the first key of one is below the other list, that coefficient is missing there
apart : (lo hi : ℕ) (m : Monomial) (s t : List Monomial) → Rising lo hi (m ∷ s) → Rising (suc m.key) hi t → Alike (m ∷ s) t → ⊥
unfolding Rising
apart lo hi m s t r q h = not_zero m.times r.2 (sym (coefficient_first lo hi m s r) ∙ h m.key ∙ coefficient-under m.key (suc m.key) hi t (omega arith) q)

pub rising_unique : (lo hi : ℕ) (s t : List Monomial) → Rising lo hi s → Rising lo hi t → Alike s t → s ≡ t
unfolding Rising
rising_unique lo hi [] [] r q h = refl
rising_unique lo hi [] (b ∷ t) r q h = absurd (apart lo hi b t [] q tt (λ k. sym (h k)))
rising_unique lo hi (a ∷ s) [] r q h = absurd (apart lo hi a s [] r tt h)
rising_unique lo hi (a ∷ s) (b ∷ t) r q h =
    by_less a.key b.key (λ l. absurd (apart lo hi a s (b ∷ t) r (l, q.1, q.2, q.3) h))
    (λ g.
    by_less b.key a.key (λ l. absurd (apart lo hi b t (a ∷ s) q (l, r.1, r.2, r.3) (λ k. sym (h k))))
    (λ l.
    let e : a.key ≡ b.key = omega arith in
    let x : a.times ≡ b.times = sym (coefficient_first lo hi a s r) ∙ h a.key ∙ ap (λ k. coefficient_at k (b ∷ t)) e ∙ coefficient_first lo hi b t q in
    let ab : a ≡ b = ap₂ monomial e x in
    let tails : Alike s t = λ k. add_cancel (here k a) (coefficient_at k s) (coefficient_at k t) (sym (coefficient_cons k a s) ∙ h k ∙ coefficient_cons k b t ∙ ap (λ m. here k m +ℤ coefficient_at k t) (sym ab)) in
    ap₂ ◌∷◌ ab (rising_unique (suc a.key) hi s t r.3 (subst (λ k. Rising (suc k) hi t) (sym e) q.3) tails)))
