-- The last monomials of a list whose keys rise, and those before them. Assumes nothing.
use Rattle.std.proofs.Common.{◌≡◌, ℕ, zero, suc, ◌+◌, ◌-◌, ◌*◌, ◌^◌, ◌<◌, ◌≤◌, Bool, true, false, cond, not, ltb, leb, List, [], ◌∷◌, length, take, drop, ℤ, pos, Some, None, position, sym, refl, ap, ◌∙◌, subst, ap₂, suc-le-suc, le_of_suc-le-suc, add-mul, add-one, arith, ltb→lt, nltb→le, leb→le, length-drop, length-take, drop-cons, le-ltb, lt-ltb}
use Rattle.std.specs.List.{position_or_len}
use Rattle.std.specs.Option.{unwrap_or}
use Rattle.std.proofs.Math.Dec.{nleb→lt}
use Rattle.std.proofs.lemmas.List.{get_or-drop}
use Rattle.std.proofs.lemmas.List.Recursion.{is_position_or_len}
use Rattle.std.proofs.lemmas.List.Sums.{prefix_len-le-length}
use Rattle.terms.specs.Monomial.{Monomial, monomial, raised, Rising}
use Rattle.terms.specs.LeadingTerms.{last_key, count_below, degree_terms, length_terms, leading_key, leading_terms, lowered}
use Rattle.terms.specs.Sizes.{KeysBelow, SizesAtMost}
use Rattle.terms.specs.Cells.{monomial_of, monomials_of}
use Rattle.terms.proofs.Tests.{on_test}
use Rattle.packed.specs.Stored.{Stored}
use Rattle.packed.specs.Terms.{term_at, term_of}

pub last_none : (ts : List Monomial) → length ts ≡ 0 → last_key ts ≡ 0
unfolding last_key
last_none [] e = refl
last_none (m ∷ ms) e = absurd (omega arith)

pub last_at : (ts : List Monomial) → (length ts ≡ 0 → ⊥) → last_key ts ≡ (term_at ts (length ts - 1)).key
unfolding last_key
last_at [] h = absurd (h refl)
last_at (m ∷ []) h = refl
last_at (m ∷ k ∷ ms) h =
    let e : suc (suc (length ms)) - 1 ≡ suc (length (k ∷ ms) - 1) = omega arith in
    last_at (k ∷ ms) (λ z. omega arith) ∙ ap (λ j. (term_at (m ∷ k ∷ ms) j).key) (sym e)

-- a place of a list
pub from_place : (ts : List Monomial) (i : ℕ) → i < length ts → drop i ts ≡ term_at ts i ∷ drop (i + 1) ts
from_place ts i h = drop-cons ts i (monomial 0 (pos 0)) h ∙ ap (λ k. term_at ts i ∷ drop k ts) (sym (add-one i))

counted : (b : ℕ) (m : Monomial) (ms : List Monomial) → Bool → ℕ
counted b m ms t = elim t [ true ↦ suc (count_below b ms) | false ↦ 0 ]

count_by : (b : ℕ) (m : Monomial) (ms : List Monomial) → count_below b (m ∷ ms) ≡ counted b m ms (ltb m.key b)
unfolding count_below counted
count_by b m ms = refl

count_less : (b : ℕ) (m : Monomial) (ms : List Monomial) → m.key < b → count_below b (m ∷ ms) ≡ suc (count_below b ms)
unfolding counted
count_less b m ms h = count_by b m ms ∙ ap (counted b m ms) (lt-ltb m.key b h)

count_end : (b : ℕ) (m : Monomial) (ms : List Monomial) → b ≤ m.key → count_below b (m ∷ ms) ≡ 0
unfolding counted
count_end b m ms h = count_by b m ms ∙ ap (counted b m ms) (le-ltb m.key b h)

count_none : (b : ℕ) → count_below b (monomials_of []) ≡ 0
unfolding count_below monomials_of
count_none b = refl

count_more : (b : ℕ) (z : ℤ) (zs : List ℤ) → count_below b (monomials_of (z ∷ zs)) ≡ cond (leb b (term_of z).key) 0 (1 + count_below b (monomials_of zs))
unfolding monomials_of
count_more b z zs =
    on_test (leb b (term_of z).key) (λ t. count_below b (monomial_of z ∷ monomials_of zs) ≡ cond t 0 (1 + count_below b (monomials_of zs)))
    (λ t. count_end b (monomial_of z) (monomials_of zs) (leb→le b (term_of z).key t))
    (λ t. let e = count_less b (monomial_of z) (monomials_of zs) (nleb→lt b (term_of z).key t) in omega arith)

-- what is counted are the numbers before the first whose key is high enough
count_cells : (b : ℕ) (zs : List ℤ) → count_below b (monomials_of zs) ≡ position_or_len (λ z. leb b (term_of z).key) zs
count_cells b zs = is_position_or_len (λ ys. count_below b (monomials_of ys)) (λ z. leb b (term_of z).key) (count_none b) (count_more b) zs

-- the place of the first, or the end
pub first_or_end : (b : ℕ) (zs : List ℤ) → unwrap_or (position (λ z. leb b (term_of z).key) zs) (length zs) ≡ count_below b (monomials_of zs)
first_or_end b zs = here (position_or_len (λ z. leb b (term_of z).key) zs) (prefix_len-le-length (λ z. not (leb b (term_of z).key)) zs) ∙ sym (count_cells b zs)
  where
    here : (n : ℕ) → n ≤ length zs → unwrap_or (cond (ltb n (length zs)) (Some n) None) (length zs) ≡ n
    here n h =
        on_test (ltb n (length zs)) (λ t. unwrap_or (cond t (Some n) None) (length zs) ≡ n) (λ t. refl) (λ t. let l = nltb→le n (length zs) t in omega arith)

pub below-most : (b : ℕ) (ts : List Monomial) → count_below b ts ≤ length ts
below-most b [] = none b
  where
    none : (b : ℕ) → count_below b [] ≤ 0
    none b = unfold count_below in omega arith
below-most b (m ∷ ms) =
    let ih = below-most b ms in
    on_test (ltb m.key b) (λ _. count_below b (m ∷ ms) ≤ suc (length ms)) (λ t. omega (arith, count_less b m ms (ltb→lt m.key b t))) (λ t. omega (arith, count_end b m ms (nltb→le m.key b t)))

rising_from : (lo hi : ℕ) (ts : List Monomial) (i : ℕ) → Rising lo hi ts → i < length ts → lo ≤ (term_at ts i).key
unfolding Rising
rising_from lo hi [] i r h = absurd (omega arith)
rising_from lo hi (m ∷ ms) zero r h = r.0
rising_from lo hi (m ∷ ms) (suc i) r h = let k = r.0 in let l = rising_from (suc m.key) hi ms i r.3 (le_of_suc-le-suc h) in omega arith

-- from there on no key is below
pub rising-above : (lo hi b : ℕ) (ts : List Monomial) (i : ℕ) → Rising lo hi ts → count_below b ts ≤ i → i < length ts → b ≤ (term_at ts i).key
unfolding Rising
rising-above lo hi b [] i r h l = absurd (omega arith)
rising-above lo hi b (m ∷ ms) zero r h l =
    on_test (ltb m.key b) (λ _. b ≤ m.key) (λ t. absurd (let e = count_less b m ms (ltb→lt m.key b t) in omega arith)) (λ t. nltb→le m.key b t)
rising-above lo hi b (m ∷ ms) (suc i) r h l =
    let ih = rising-above (suc m.key) hi b ms i r.3 in
    let up = rising_from (suc m.key) hi ms i r.3 (le_of_suc-le-suc l) in
    on_test (ltb m.key b) (λ _. b ≤ (term_at ms i).key) (λ t. ih (let e = count_less b m ms (ltb→lt m.key b t) in omega arith) (le_of_suc-le-suc l))
    (λ t. let k = nltb→le m.key b t in omega arith)

-- so the keys from there on rise from it
pub high-left : (lo hi b : ℕ) (ts : List Monomial) → Rising lo hi ts → Rising b hi (drop (count_below b ts) ts)
unfolding Rising
high-left lo hi b [] r = none
  where
    none : Rising b hi (drop (count_below b []) [])
    none = unfold count_below in tt
high-left lo hi b (m ∷ ms) r =
    let From : ℕ → Type 0 = λ n. Rising b hi (drop n (m ∷ ms)) in
    on_test (ltb m.key b) (λ _. From (count_below b (m ∷ ms)))
    (λ t. subst From (sym (count_less b m ms (ltb→lt m.key b t))) (high-left (suc m.key) hi b ms r.3))
    (λ t. let h = nltb→le m.key b t in subst From (sym (count_end b m ms h)) (h, r.1, r.2, r.3))

pub take-rising : (lo hi : ℕ) (ts : List Monomial) (n : ℕ) → Rising lo hi ts → Rising lo hi (take n ts)
unfolding Rising
take-rising lo hi ts zero r = tt
take-rising lo hi [] (suc n) r = tt
take-rising lo hi (m ∷ ms) (suc n) r = (r.0, r.1, r.2, take-rising (suc m.key) hi ms n r.3)

take-sizes : (b : ℕ) (ts : List Monomial) (n : ℕ) → SizesAtMost b ts → SizesAtMost b (take n ts)
unfolding SizesAtMost
take-sizes b ts zero s = tt
take-sizes b [] (suc n) s = tt
take-sizes b (m ∷ ms) (suc n) s = (s.0, take-sizes b ms n s.1)

pub take-monomials : (zs : List ℤ) (n : ℕ) → monomials_of (take n zs) ≡ take n (monomials_of zs)
unfolding monomials_of
take-monomials zs zero = refl
take-monomials [] (suc n) = refl
take-monomials (z ∷ zs) (suc n) = ap (λ w. monomial_of z ∷ w) (take-monomials zs n)

pub stored-take : (zs : List ℤ) (n : ℕ) → Stored zs → Stored (take n zs)
stored-take zs n s =
    record {
      rising = subst (Rising 0 (2 ^ 19)) (sym (take-monomials zs n)) (take-rising 0 (2 ^ 19) (monomials_of zs) n s.rising);
      sizes = subst (SizesAtMost (2 ^ 27 - 1)) (sym (take-monomials zs n)) (take-sizes (2 ^ 27 - 1) (monomials_of zs) n s.sizes);
      short = omega (arith, length-take n zs, s.short);
    }

pub last-below : (hi : ℕ) (ts : List Monomial) → KeysBelow hi ts → 0 < hi → last_key ts < hi
unfolding last_key KeysBelow
last-below hi [] k h = h
last-below hi (m ∷ []) k h = k.0
last-below hi (m ∷ n ∷ ms) k h = last-below hi (n ∷ ms) k.1 h

-- a list has as many coefficients as its degree and one, unless it is empty
pub length-degree : (n : ℕ) (ts : List Monomial) → 0 < length_terms n ts → length_terms n ts ≡ degree_terms n ts + 1
length-degree n [] h = absurd (omega arith)
length-degree n (m ∷ ms) h = refl

-- where one leading coefficient begins, seen from where the other does
pub leading_gap : (n : ℕ) (p s : List Monomial) → 0 < length_terms n p → length_terms n p ≤ length_terms n s →
    leading_key n s ≡ (length_terms n s - length_terms n p) * 32 ^ n + leading_key n p
leading_gap n p s h l =
    let a : length_terms n p ≡ degree_terms n p + 1 = length-degree n p h in
    let b : length_terms n s ≡ degree_terms n s + 1 = length-degree n s (omega arith) in
    let e : degree_terms n s ≡ length_terms n s - length_terms n p + degree_terms n p = omega arith in
    ap (λ k. k * 32 ^ n) e ∙ add-mul (length_terms n s - length_terms n p) (degree_terms n p) (32 ^ n)

-- lowered and raised again
pub raised-lowered : (e d f : ℕ) (ts : List Monomial) → f ≡ e + d → ((i : ℕ) → i < length ts → f ≤ (term_at ts i).key) → raised e (lowered f ts) ≡ lowered d ts
unfolding raised lowered
raised-lowered e d f [] q h = refl
raised-lowered e d f (m ∷ ms) q h =
    let k = h 0 (omega arith) in
    let same : e + (m.key - f) ≡ m.key - d = omega arith in
    ap₂ (λ x w. monomial x m.times ∷ w) same (raised-lowered e d f ms q (λ i l. h (suc i) (suc-le-suc l)))

-- the leading coefficient, moved up as far as the other begins below it
pub leading_raised : (lo hi n : ℕ) (p s : List Monomial) → Rising lo hi s → 0 < length_terms n p → length_terms n p ≤ length_terms n s →
    raised ((length_terms n s - length_terms n p) * 32 ^ n) (leading_terms n s) ≡ lowered (leading_key n p) (drop (count_below (leading_key n s) s) s)
leading_raised lo hi n p s r h l =
    let b = leading_key n s in
    raised-lowered ((length_terms n s - length_terms n p) * 32 ^ n) (leading_key n p) b (drop (count_below b s) s) (leading_gap n p s h l)
    (λ i k.
    let e : term_at (drop (count_below b s) s) i ≡ term_at s (count_below b s + i) = get_or-drop (count_below b s) s i (monomial 0 (pos 0)) in
    let g : b ≤ (term_at s (count_below b s + i)).key = rising-above lo hi b s (count_below b s + i) r (omega arith) (omega (arith, length-drop (count_below b s) s, k)) in
    let q : (term_at (drop (count_below b s) s) i).key ≡ (term_at s (count_below b s + i)).key = ap (λ m. m.key) e in omega arith)
