-- How long lists of monomials get, how high their keys and how large their coefficients. Assumes nothing.
use Rattle.std.proofs.Common.{◌≡◌, ℕ, zero, suc, ◌+◌, ◌-◌, ◌*◌, ◌^◌, ◌<◌, ◌≤◌, cond, ltb, List, [], ◌∷◌, length, drop, ℤ, pos, negsuc, ◌+ℤ◌, ◌*ℤ◌, neg_ℤ, refl, ap, subst, mul-le-mul_right, suc-mul, mul-le-mul_left, arith, ltb→lt, length-drop}
use lib.IntN.{sub_ℕ}
use Rattle.poly.specs.Poly.{Poly}
use Rattle.poly.specs.Arithmetic.{product}
use Rattle.poly.specs.Modest.{magnitude}
use Rattle.poly.specs.Division.{division_step}
use Rattle.terms.specs.Monomial.{Monomial, monomial, raised, flat, Rising}
use Rattle.terms.specs.Operations.{merge_term, add_terms, neg_terms, scale_terms, add_product, mul_terms}
use Rattle.terms.specs.LeadingTerms.{length_terms, count_below, lowered, leading_key, leading_terms}
use Rattle.terms.specs.DivisionTerms.{step_terms}
use Rattle.terms.specs.Canon.{Canon}
use Rattle.terms.specs.Sizes.{KeysBelow, SizesAtMost}
use Rattle.terms.proofs.Tests.{on_test}
use Rattle.terms.proofs.Coefficients.{merge_cases, put_cases}
use Rattle.terms.proofs.Canons.{Canon-product, Canon-division_step}
use Rattle.terms.proofs.Flat.{flat_rising}
use Rattle.terms.proofs.Sums.{flat_product}
use Rattle.terms.proofs.Steps.{flat_division_step}

-- lengths
length_merge : (a : Monomial) (n : ℕ) (f : List Monomial → List Monomial) → ((t : List Monomial) → length (f t) ≤ n + length t) → (t : List Monomial) → length (merge_term a f t) ≤ suc n + length t
unfolding merge_term
length_merge a n f h [] = omega (arith, h [])
length_merge a n f h (b ∷ t) =
    let ih = length_merge a n f h t in
    merge_cases a b f t (λ l. length l ≤ suc n + suc (length t)) (λ _. omega (arith, h (b ∷ t))) (λ _. omega arith)
    (λ _. put_cases (monomial a.key (a.times +ℤ b.times)) (f t) (λ l. length l ≤ suc n + suc (length t)) (λ _. omega (arith, h t)) (λ _. omega (arith, h t)))

pub length_sum : (s t : List Monomial) → length (add_terms s t) ≤ length s + length t
unfolding add_terms
length_sum [] t = omega arith
length_sum (a ∷ p) t = length_merge a (length p) (add_terms p) (length_sum p) t

pub length_scaled : (d : ℕ) (x : ℤ) (s : List Monomial) → length (scale_terms d x s) ≡ length s
unfolding scale_terms
length_scaled d x [] = refl
length_scaled d x (m ∷ s) = ap suc (length_scaled d x s)

pub length_product : (p q acc : List Monomial) → length (add_product p q acc) ≤ length p * length q + length acc
unfolding add_product
length_product [] q acc = omega arith
length_product (m ∷ p) q acc =
    omega (arith, length_sum (scale_terms m.key m.times q) (add_product p q acc), length_scaled m.key m.times q, length_product p q acc, suc-mul (length p) (length q))

-- keys
keys_merge : (hi : ℕ) (a : Monomial) (f : List Monomial → List Monomial) → a.key < hi → ((t : List Monomial) → KeysBelow hi t → KeysBelow hi (f t)) → (t : List Monomial) → KeysBelow hi t → KeysBelow hi (merge_term a f t)
unfolding merge_term KeysBelow
keys_merge hi a f l h [] k = (l, h [] tt)
keys_merge hi a f l h (b ∷ t) k =
    let ih = keys_merge hi a f l h t k.1 in
    merge_cases a b f t (KeysBelow hi) (λ _. (l, h (b ∷ t) k)) (λ _. (k.0, ih))
    (λ _. put_cases (monomial a.key (a.times +ℤ b.times)) (f t) (KeysBelow hi) (λ _. h t k.1) (λ _. (l, h t k.1)))

pub keys_sum : (hi : ℕ) (s t : List Monomial) → KeysBelow hi s → KeysBelow hi t → KeysBelow hi (add_terms s t)
unfolding add_terms KeysBelow
keys_sum hi [] t h k = k
keys_sum hi (a ∷ p) t h k = keys_merge hi a (add_terms p) h.0 (λ t. keys_sum hi p t h.1) t k

pub keys_scaled : (hi d : ℕ) (x : ℤ) (s : List Monomial) → KeysBelow hi s → KeysBelow (d + hi) (scale_terms d x s)
unfolding scale_terms KeysBelow
keys_scaled hi d x [] h = tt
keys_scaled hi d x (m ∷ s) h = (omega (arith, h.0), keys_scaled hi d x s h.1)

keys_wider : (a b : ℕ) (s : List Monomial) → a ≤ b → KeysBelow a s → KeysBelow b s
unfolding KeysBelow
keys_wider a b [] l h = tt
keys_wider a b (m ∷ s) l h = (omega (arith, h.0), keys_wider a b s l h.1)

pub keys_product : (a b : ℕ) (p q acc : List Monomial) → KeysBelow a p → KeysBelow b q → KeysBelow (a + b) acc → KeysBelow (a + b) (add_product p q acc)
unfolding add_product KeysBelow
keys_product a b [] q acc h k r = r
keys_product a b (m ∷ p) q acc h k r =
    let s = scale_terms m.key m.times q in
    keys_sum (a + b) s (add_product p q acc) (keys_wider (m.key + b) (a + b) s (omega (arith, h.0)) (keys_scaled b m.key m.times q k)) (keys_product a b p q acc h.1 k r)

pub keys_rising : (lo hi : ℕ) (s : List Monomial) → Rising lo hi s → KeysBelow hi s
unfolding KeysBelow Rising
keys_rising lo hi [] r = tt
keys_rising lo hi (m ∷ s) r = (r.1, keys_rising (suc m.key) hi s r.3)

four_digits : (n : ℕ) → n ≤ 4 → 32 ^ n ≤ 2 ^ 20
four_digits zero l = omega arith
four_digits (suc zero) l = omega arith
four_digits (suc (suc zero)) l = omega arith
four_digits (suc (suc (suc zero))) l = omega arith
four_digits (suc (suc (suc (suc zero)))) l = omega arith
four_digits (suc (suc (suc (suc (suc n))))) l = absurd (omega arith)

pub keys_flat : (b n : ℕ) (p : Poly) → n ≤ 4 → b ≤ 32 → Canon b n p → KeysBelow (2 ^ 20) (flat n p)
keys_flat b n p m l d = keys_wider (32 ^ n) (2 ^ 20) (flat n p) (four_digits n m) (keys_rising 0 (32 ^ n) (flat n p) (flat_rising b n p l d))

pub rising_of_product : (a b n : ℕ) (p q : Poly) → suc a + b ≤ 32 → Canon (suc a) n p → Canon (suc b) n q → Rising 0 (32 ^ n) (mul_terms (flat n p) (flat n q))
rising_of_product a b n p q l d k = subst (Rising 0 (32 ^ n)) (flat_product a b n p q l d k) (flat_rising (suc a + b) n (product n p q) l (Canon-product (suc a) b n p q d k))

pub rising_of_step : (b n : ℕ) (p s : Poly) → suc b + b ≤ 32 → Canon (suc b) (suc n) p → Canon (suc b) (suc n) s → Rising 0 (32 ^ suc n) (step_terms n (flat (suc n) p) (flat (suc n) s))
rising_of_step b n p s l d k = subst (Rising 0 (32 ^ suc n)) (flat_division_step b n p s l d k) (flat_rising (suc b + b) (suc n) (division_step n p s) l (Canon-division_step b n p s d k))

-- sizes of sums and products
size_subℕ : (a b : ℕ) → magnitude (sub_ℕ a b) ≤ a + b
size_subℕ a b = on_test (ltb a b) (λ t. magnitude (cond t (negsuc (b - suc a)) (pos (a - b))) ≤ a + b) (λ t. let h = ltb→lt a b t in omega arith) (λ t. omega arith)

pub size_sum : (x y : ℤ) → magnitude (x +ℤ y) ≤ magnitude x + magnitude y
size_sum (pos a) (pos b) = omega arith
size_sum (pos a) (negsuc b) = size_subℕ a (suc b)
size_sum (negsuc a) (pos b) = let h = size_subℕ b (suc a) in omega arith
size_sum (negsuc a) (negsuc b) = omega arith

pub size_neg : (x : ℤ) → magnitude (neg_ℤ x) ≡ magnitude x
size_neg (pos zero) = refl
size_neg (pos (suc n)) = refl
size_neg (negsuc n) = refl

pub size_product : (x y : ℤ) → magnitude (x *ℤ y) ≡ magnitude x * magnitude y
size_product (pos a) (pos b) = refl
size_product (pos a) (negsuc b) = size_neg (pos (a * suc b))
size_product (negsuc a) (pos b) = size_neg (pos (suc a * b))
size_product (negsuc a) (negsuc b) = refl

sizes_wider : (a b : ℕ) (s : List Monomial) → a ≤ b → SizesAtMost a s → SizesAtMost b s
unfolding SizesAtMost
sizes_wider a b [] l h = tt
sizes_wider a b (m ∷ s) l h = (omega (arith, h.0), sizes_wider a b s l h.1)

sizes_merge : (x y : ℕ) (a : Monomial) (f : List Monomial → List Monomial) → magnitude a.times ≤ x → ((t : List Monomial) → SizesAtMost y t → SizesAtMost (x + y) (f t)) →
    (t : List Monomial) → SizesAtMost y t → SizesAtMost (x + y) (merge_term a f t)
unfolding merge_term SizesAtMost
sizes_merge x y a f l h [] k = (omega arith, h [] tt)
sizes_merge x y a f l h (b ∷ t) k =
    let ih = sizes_merge x y a f l h t k.1 in
    merge_cases a b f t (SizesAtMost (x + y)) (λ _. (omega arith, h (b ∷ t) k)) (λ _. (omega (arith, k.0), ih))
    (λ _. put_cases (monomial a.key (a.times +ℤ b.times)) (f t) (SizesAtMost (x + y)) (λ _. h t k.1) (λ _. (omega (arith, k.0, size_sum a.times b.times), h t k.1)))

pub sizes_sum : (a b : ℕ) (s t : List Monomial) → SizesAtMost a s → SizesAtMost b t → SizesAtMost (a + b) (add_terms s t)
unfolding add_terms SizesAtMost
sizes_sum a b [] t h k = sizes_wider b (a + b) t (omega arith) k
sizes_sum a b (m ∷ p) t h k = sizes_merge a b m (add_terms p) h.0 (λ t. sizes_sum a b p t h.1) t k

pub sizes_scaled : (b d : ℕ) (x : ℤ) (s : List Monomial) → SizesAtMost b s → SizesAtMost (magnitude x * b) (scale_terms d x s)
unfolding scale_terms SizesAtMost
sizes_scaled b d x [] h = tt
sizes_scaled b d x (m ∷ s) h = (omega (arith, size_product x m.times, mul-le-mul_left {m = magnitude m.times} {n = b} (magnitude x) h.0), sizes_scaled b d x s h.1)

pub sizes_product : (a b c : ℕ) (p q acc : List Monomial) → SizesAtMost a p → SizesAtMost b q → SizesAtMost c acc → SizesAtMost (length p * (a * b) + c) (add_product p q acc)
unfolding add_product SizesAtMost
sizes_product a b c [] q acc h k r = sizes_wider c (0 * (a * b) + c) acc (omega arith) r
sizes_product a b c (m ∷ p) q acc h k r =
    let s = scale_terms m.key m.times q in
    let t = add_product p q acc in
    let n = length p * (a * b) + c in
    sizes_wider (a * b + n) (suc (length p) * (a * b) + c) (add_terms s t) (omega (arith, suc-mul (length p) (a * b)))
    (sizes_sum (a * b) n s t (sizes_wider (magnitude m.times * b) (a * b) s (mul-le-mul_right {m = magnitude m.times} {n = a} b h.0) (sizes_scaled b m.key m.times q k)) (sizes_product a b c p q acc h.1 k r))

pub sizes_modest_product : (c : ℕ) (p q acc : List Monomial) → length p ≤ 64 → SizesAtMost (2 ^ 27 - 1) p → SizesAtMost (2 ^ 27 - 1) q → SizesAtMost c acc → SizesAtMost (2 ^ 60 - 1 + c) (add_product p q acc)
sizes_modest_product c p q acc l h k r =
    let x = (2 ^ 27 - 1) * (2 ^ 27 - 1) in
    sizes_wider (length p * x + c) (2 ^ 60 - 1 + c) (add_product p q acc) (omega (arith, mul-le-mul_right {m = length p} {n = 64} x l)) (sizes_product (2 ^ 27 - 1) (2 ^ 27 - 1) c p q acc h k r)

-- a step of the division
sizes-drop : (b i : ℕ) (s : List Monomial) → SizesAtMost b s → SizesAtMost b (drop i s)
unfolding SizesAtMost
sizes-drop b zero s h = h
sizes-drop b (suc i) [] h = tt
sizes-drop b (suc i) (m ∷ s) h = sizes-drop b i s h.1

sizes-lowered : (b d : ℕ) (s : List Monomial) → SizesAtMost b s → SizesAtMost b (lowered d s)
unfolding SizesAtMost lowered
sizes-lowered b d [] h = tt
sizes-lowered b d (m ∷ s) h = (h.0, sizes-lowered b d s h.1)

length-lowered : (d : ℕ) (s : List Monomial) → length (lowered d s) ≡ length s
unfolding lowered
length-lowered d [] = refl
length-lowered d (m ∷ s) = ap suc (length-lowered d s)

sizes_leading : (b n : ℕ) (s : List Monomial) → SizesAtMost b s → SizesAtMost b (leading_terms n s)
sizes_leading b n s h = sizes-lowered b (leading_key n s) (drop (count_below (leading_key n s) s) s) (sizes-drop b (count_below (leading_key n s) s) s h)

pub length_leading : (n : ℕ) (s : List Monomial) → length (leading_terms n s) ≤ length s
length_leading n s = let i = count_below (leading_key n s) s in omega (arith, length-lowered (leading_key n s) (drop i s), length-drop i s)

sizes-moved : (b d : ℕ) (s : List Monomial) → SizesAtMost b s → SizesAtMost b (neg_terms (raised d s))
unfolding SizesAtMost neg_terms raised
sizes-moved b d [] h = tt
sizes-moved b d (m ∷ s) h = (omega (arith, h.0, size_neg m.times), sizes-moved b d s h.1)

length_moved : (d : ℕ) (s : List Monomial) → length (neg_terms (raised d s)) ≡ length s
unfolding neg_terms raised
length_moved d [] = refl
length_moved d (m ∷ s) = ap suc (length_moved d s)

pub sizes_step : (n : ℕ) (p s : List Monomial) → length p ≤ 64 → length s ≤ 64 → SizesAtMost (2 ^ 27 - 1) p → SizesAtMost (2 ^ 27 - 1) s → SizesAtMost (2 ^ 61 - 2) (step_terms n p s)
sizes_step n p s lp ls hp hs =
    let d = (length_terms n s - length_terms n p) * 32 ^ n in
    let m = mul_terms (leading_terms n p) s in
    let x = neg_terms (raised d (leading_terms n s)) in
    sizes_wider (2 ^ 60 - 1 + (2 ^ 60 - 1 + 0)) (2 ^ 61 - 2) (add_product x p m) (omega arith)
    (sizes_modest_product (2 ^ 60 - 1 + 0) x p m (omega (arith, length_moved d (leading_terms n s), length_leading n s)) (sizes-moved (2 ^ 27 - 1) d (leading_terms n s) (sizes_leading (2 ^ 27 - 1) n s hs)) hp
    (sizes_modest_product 0 (leading_terms n p) s [] (omega (arith, length_leading n p)) (sizes_leading (2 ^ 27 - 1) n p hp) hs (unfold SizesAtMost in tt)))
