-- The keys of what is computed rise. Assumes nothing.
use Rattle.std.proofs.Common.{◌≡◌, ℕ, zero, suc, ◌+◌, ◌-◌, ◌*◌, ◌/◌, ◌^◌, ◌<◌, ◌≤◌, Bool, true, false, not, T, List, [], ◌∷◌, length, drop, ℤ, pos, sym, ap, subst, suc-le-suc, one-mul, le-div_iff_mul-le, arith, length-drop, ne_eqb}
use native.Mathlib.Nat.{one-le-pow}
use Rattle.std.proofs.lemmas.List.{get_or-drop}
use Rattle.terms.specs.Monomial.{Monomial, monomial, Rising}
use Rattle.terms.specs.Operations.{add_product}
use Rattle.terms.specs.LeadingTerms.{lowered, slopes, count_below}
use Rattle.terms.proofs.Integers.{NotZero, not_zero_mul}
use Rattle.terms.proofs.Rises.{rising_wider, rising-neg, rising-product}
use Rattle.packed.specs.declared.stretch.Stretch.{Stretch}
use Rattle.packed.specs.Terms.{terms_in, term_at}
use Rattle.packed.specs.StretchTerms.{stretch_terms}
use Rattle.packed.specs.Signed.{signed}
use Rattle.packed.proofs.Leading.{rising-above}
use Rattle.packed.proofs.Lowered.{view-rising}

drop-rising : (lo hi : ℕ) (ts : List Monomial) (i : ℕ) → Rising lo hi ts → Rising lo hi (drop i ts)
unfolding Rising
drop-rising lo hi ts zero r = r
drop-rising lo hi [] (suc i) r = tt
drop-rising lo hi (m ∷ ms) (suc i) r =
    let l = r.0 in rising_wider (suc m.key) hi lo hi (drop i ms) (omega arith) (omega arith) (drop-rising (suc m.key) hi ms i r.3)

lowered-rising : (d lo hi : ℕ) (ts : List Monomial) → Rising lo hi ts → ((i : ℕ) → i < length ts → d ≤ (term_at ts i).key) → Rising (lo - d) hi (lowered d ts)
unfolding Rising lowered
lowered-rising d lo hi [] r h = tt
lowered-rising d lo hi (m ∷ ms) r h =
    let k = h 0 (omega arith) in
    let l = r.0 in
    let u = r.1 in
    let more = lowered-rising d (suc m.key) hi ms r.3 (λ i g. h (suc i) (suc-le-suc g)) in
    let e : suc m.key - d ≡ suc (m.key - d) = omega arith in
    let From : ℕ → Type 0 = λ n. Rising n hi (lowered d ms) in
    (omega arith, omega arith, r.2, subst From e more)

some-times : (k p : ℕ) → 0 < p → p ≤ k → NotZero (pos (k / p))
some-times k p z h = positive (k / p) ((le-div_iff_mul-le {k = p} {x = 1} {y = k} z).1 (let e : 1 * p ≡ p = one-mul p in omega arith))
  where
    positive : (n : ℕ) → 0 < n → NotZero (pos n)
    positive n l = subst (λ t. T (not t)) (sym (ne_eqb n 0 (λ e. omega arith))) tt

slopes-rising : (n lo hi : ℕ) (ts : List Monomial) → Rising lo hi ts → ((i : ℕ) → i < length ts → 32 ^ n ≤ (term_at ts i).key) → Rising (lo - 32 ^ n) hi (slopes n ts)
unfolding Rising slopes
slopes-rising n lo hi [] r h = tt
slopes-rising n lo hi (m ∷ ms) r h =
    let k = h 0 (omega arith) in
    let l = r.0 in
    let u = r.1 in
    let more = slopes-rising n (suc m.key) hi ms r.3 (λ i g. h (suc i) (suc-le-suc g)) in
    let e : suc m.key - 32 ^ n ≡ suc (m.key - 32 ^ n) = omega arith in
    let From : ℕ → Type 0 = λ j. Rising j hi (slopes n ms) in
    (omega arith, omega arith, not_zero_mul (pos (m.key / 32 ^ n)) m.times (some-times m.key (32 ^ n) (one-le-pow n 32 (omega arith)) k) r.2, subst From e more)

pub signed-rising : (b : Bool) (lo hi : ℕ) (ts : List Monomial) → Rising lo hi ts → Rising lo hi (signed b ts)
signed-rising true lo hi ts r = rising-neg lo hi ts r
signed-rising false lo hi ts r = r

pub stretch_rising : (s : Stretch) → Rising 0 (2 ^ 19) (stretch_terms s)
stretch_rising s =
    let ts = terms_in s.view in
    let plain = lowered s.down (drop s.from ts) in
    let From : ℕ → Type 0 = λ n. Rising n (2 ^ 19) plain in
    let e : 0 - s.down ≡ 0 = omega arith in
    signed-rising s.negative 0 (2 ^ 19) plain
    (subst From e
    (lowered-rising s.down 0 (2 ^ 19) (drop s.from ts) (drop-rising 0 (2 ^ 19) ts s.from (view-rising s.view))
    (λ i h.
    let q : (term_at (drop s.from ts) i).key ≡ (term_at ts (s.from + i)).key = ap (λ m. m.key) (get_or-drop s.from ts i (monomial 0 (pos 0))) in
    let g : s.down ≤ (term_at ts (s.from + i)).key = s.above (s.from + i) (omega arith) (omega (arith, length-drop s.from ts, h)) in omega arith)))

pub derivative-rising : (n hi : ℕ) (ts : List Monomial) → Rising 0 hi ts → Rising 0 hi (slopes n (drop (count_below (32 ^ n) ts) ts))
derivative-rising n hi ts r =
    let b = 32 ^ n in
    let From : ℕ → Type 0 = λ j. Rising j hi (slopes n (drop (count_below b ts) ts)) in
    let e : 0 - b ≡ 0 = omega arith in
    subst From e
    (slopes-rising n 0 hi (drop (count_below b ts) ts) (drop-rising 0 hi ts (count_below b ts) r)
    (λ i h.
    let q : (term_at (drop (count_below b ts) ts) i).key ≡ (term_at ts (count_below b ts + i)).key = ap (λ m. m.key) (get_or-drop (count_below b ts) ts i (monomial 0 (pos 0))) in
    let g : b ≤ (term_at ts (count_below b ts + i)).key = rising-above 0 hi b ts (count_below b ts + i) r (omega arith) (omega (arith, length-drop (count_below b ts) ts, h)) in omega arith))

pub wider : (list ts : List Monomial) → list ≡ ts → Rising 0 (2 ^ 19) ts → Rising 0 (2 ^ 20) list
wider list ts e r = subst (Rising 0 (2 ^ 20)) (sym e) (rising_wider 0 (2 ^ 19) 0 (2 ^ 20) ts (omega arith) (omega arith) r)

-- at most two products
pub product-rising : (p q acc list : List Monomial) → list ≡ add_product p q acc → Rising 0 (2 ^ 19) p → Rising 0 (2 ^ 19) q → Rising 0 (2 ^ 20) acc → Rising 0 (2 ^ 20) list
product-rising p q acc list e r s a = subst (Rising 0 (2 ^ 20)) (sym e) (rising-product 0 (2 ^ 19) (2 ^ 19) p q acc r s a)

pub one-rising : (k : ℕ) (z : ℤ) (list : List Monomial) → list ≡ monomial k z ∷ [] → k < 2 ^ 20 → NotZero z → Rising 0 (2 ^ 20) list
unfolding Rising
one-rising k z list e h n = subst (Rising 0 (2 ^ 20)) (sym e) (omega arith, h, n, tt)

pub none_rising : (list : List Monomial) → list ≡ [] → Rising 0 (2 ^ 20) list
unfolding Rising
none_rising list e = subst (Rising 0 (2 ^ 20)) (sym e) tt
