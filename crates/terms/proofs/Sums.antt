-- The monomials of sums, negatives and products of polynomials. Assumes nothing.
use Rattle.std.proofs.Common.{◌≡◌, ℕ, zero, suc, ◌+◌, ◌^◌, ◌≤◌, Bool, true, false, cond, eqb, List, [], ◌∷◌, ◌++◌, ℤ, pos, ◌+ℤ◌, ◌*ℤ◌, neg_ℤ, sym, refl, ap, ◌∙◌, ap₂, append_assoc, append-nil, arith}
use lib.IntN.{+ℤ_idr, zero-*ℤ, *ℤ-zero}
use Rattle.poly.specs.Poly.{Poly, coefs, the_number, zero_poly}
use Rattle.poly.specs.Arithmetic.{sum_by, sum, map_poly, product_by, product, negative}
use Rattle.terms.specs.Monomial.{Monomial, monomial, raised, constant_terms, flat, coefficient_at, Rising}
use Rattle.terms.specs.Operations.{add_terms, neg_terms, scale_terms, add_product, mul_terms}
use Rattle.terms.specs.Canon.{Canon}
use Rattle.terms.proofs.Integers.{NotZero, not_zero, not_zero_neg, not_zero_mul}
use Rattle.terms.proofs.Coefficients.{Alike, coefficient_cons, coefficient_nil, coefficient-append, alike_append, alike_exchange, alike_raised, alike_add}
use Rattle.terms.proofs.Rises.{rising_wider, rising-add, rising_unique, rising-product}
use Rattle.terms.proofs.Canons.{Canon-sum, Canon-product}
use Rattle.terms.proofs.Flat.{flats, flat-coefs, flat-from_coefs, flat_trimmed, constant_cases, flat_zero, zero_is, flat_rising}

constant_zero : constant_terms (pos 0) ≡ []
unfolding constant_terms
constant_zero = refl

pub constant_not_zero : (z : ℤ) → NotZero z → constant_terms z ≡ monomial 0 z ∷ []
constant_not_zero z h = constant_cases z (λ ts. ts ≡ monomial 0 z ∷ []) (λ e. absurd (not_zero z h e)) (λ _. refl)

-- the coefficients of a number's list
coefficient-constant : (k : ℕ) (z : ℤ) → coefficient_at k (constant_terms z) ≡ cond (eqb 0 k) z (pos 0)
coefficient-constant k z =
    constant_cases z (λ ts. coefficient_at k ts ≡ cond (eqb 0 k) z (pos 0)) (λ e. coefficient_nil k ∙ sym (ap (λ u. cond (eqb 0 k) u (pos 0)) e ∙ none (eqb 0 k)))
    (λ h. coefficient_cons k (monomial 0 z) [] ∙ ap (λ u. cond (eqb 0 k) z (pos 0) +ℤ u) (coefficient_nil k) ∙ +ℤ_idr (cond (eqb 0 k) z (pos 0)))
  where
    none : (b : Bool) → cond b (pos 0) (pos 0) ≡ pos 0
    none true = refl
    none false = refl

alike_constant-sum : (x y : ℤ) → Alike (constant_terms (x +ℤ y)) (constant_terms x ++ constant_terms y)
alike_constant-sum x y k =
    coefficient-constant k (x +ℤ y) ∙ each (eqb 0 k) ∙ sym (coefficient-append k (constant_terms x) (constant_terms y) ∙ ap₂ ◌+ℤ◌ (coefficient-constant k x) (coefficient-constant k y))
  where
    each : (b : Bool) → cond b (x +ℤ y) (pos 0) ≡ cond b x (pos 0) +ℤ cond b y (pos 0)
    each true = refl
    each false = refl

pub raised-append : (d : ℕ) (s t : List Monomial) → raised d (s ++ t) ≡ raised d s ++ raised d t
unfolding raised
raised-append d [] t = refl
raised-append d (m ∷ s) t = ap (λ l. monomial (d + m.key) m.times ∷ l) (raised-append d s t)

alike_sum_by : (n : ℕ) → ((a b : Poly) → Alike (flat n (sum n a b)) (flat n a ++ flat n b)) → (p q : List Poly) → Alike (flats n (sum_by (sum n) p q)) (flats n p ++ flats n q)
unfolding sum_by flats
alike_sum_by n h [] q k = refl
alike_sum_by n h (a ∷ p) [] k = ap (coefficient_at k) (sym (append-nil (flat n a ++ raised (32 ^ n) (flats n p))))
alike_sum_by n h (a ∷ p) (b ∷ q) k =
    let g = 32 ^ n in
    alike_append (flat n (sum n a b)) (flat n a ++ flat n b) (raised g (flats n (sum_by (sum n) p q))) (raised g (flats n p ++ flats n q)) (h a b)
    (alike_raised g (flats n (sum_by (sum n) p q)) (flats n p ++ flats n q) (alike_sum_by n h p q)) k
    ∙ ap (λ l. coefficient_at k ((flat n a ++ flat n b) ++ l)) (raised-append g (flats n p) (flats n q))
    ∙ alike_exchange (flat n a) (flat n b) (raised g (flats n p)) (raised g (flats n q)) k

pub alike_sum : (n : ℕ) (p q : Poly) → Alike (flat n (sum n p q)) (flat n p ++ flat n q)
unfolding sum
alike_sum zero p q k = unfold flat in alike_constant-sum (the_number p) (the_number q) k
alike_sum (suc n) p q k =
    ap (coefficient_at k) (flat_trimmed n (sum_by (sum n) (coefs p) (coefs q))) ∙ alike_sum_by n (alike_sum n) (coefs p) (coefs q) k
    ∙ ap₂ (λ s t. coefficient_at k (s ++ t)) (sym (flat-coefs n p)) (sym (flat-coefs n q))

pub flat_sum : (b n : ℕ) (p q : Poly) → b ≤ 32 → Canon b n p → Canon b n q → flat n (sum n p q) ≡ add_terms (flat n p) (flat n q)
flat_sum b n p q l d k =
    rising_unique 0 (32 ^ n) (flat n (sum n p q)) (add_terms (flat n p) (flat n q)) (flat_rising b n (sum n p q) l (Canon-sum b n p q d k))
    (rising-add 0 (32 ^ n) (flat n p) (flat n q) (flat_rising b n p l d) (flat_rising b n q l k))
    (λ j. alike_sum n p q j ∙ sym (alike_add (flat n p) (flat n q) j))

-- negatives
pub neg-append : (s t : List Monomial) → neg_terms (s ++ t) ≡ neg_terms s ++ neg_terms t
unfolding neg_terms
neg-append [] t = refl
neg-append (m ∷ s) t = ap (λ l. monomial m.key (neg_ℤ m.times) ∷ l) (neg-append s t)

neg-raised : (d : ℕ) (s : List Monomial) → neg_terms (raised d s) ≡ raised d (neg_terms s)
unfolding neg_terms raised
neg-raised d [] = refl
neg-raised d (m ∷ s) = ap (λ l. monomial (d + m.key) (neg_ℤ m.times) ∷ l) (neg-raised d s)

flats_negative : (n : ℕ) → ((c : Poly) → flat n (negative n c) ≡ neg_terms (flat n c)) → (cs : List Poly) → flats n (map_poly (negative n) cs) ≡ neg_terms (flats n cs)
unfolding flats map_poly
flats_negative n h [] = unfold neg_terms in refl
flats_negative n h (c ∷ cs) =
    let g = 32 ^ n in
    ap₂ (λ s t. s ++ raised g t) (h c) (flats_negative n h cs) ∙ ap (λ t. neg_terms (flat n c) ++ t) (sym (neg-raised g (flats n cs))) ∙ sym (neg-append (flat n c) (raised g (flats n cs)))

neg-constant : (z : ℤ) → constant_terms (neg_ℤ z) ≡ neg_terms (constant_terms z)
neg-constant z =
    constant_cases z (λ ts. constant_terms (neg_ℤ z) ≡ neg_terms ts) (λ e. ap (λ x. constant_terms (neg_ℤ x)) e ∙ constant_zero ∙ (unfold neg_terms in refl))
    (λ h. constant_not_zero (neg_ℤ z) (not_zero_neg z h) ∙ negated z)
  where
    negated : (z : ℤ) → monomial 0 (neg_ℤ z) ∷ [] ≡ neg_terms (monomial 0 z ∷ [])
    negated z = unfold neg_terms in refl

pub flat_negative : (n : ℕ) (p : Poly) → flat n (negative n p) ≡ neg_terms (flat n p)
unfolding negative
flat_negative zero p = unfold flat in neg-constant (the_number p)
flat_negative (suc n) p = flat-from_coefs n (map_poly (negative n) (coefs p)) ∙ flats_negative n (flat_negative n) (coefs p) ∙ ap neg_terms (sym (flat-coefs n p))

-- products: each monomial of the first times each of the second
unfoldable pub all_products : List Monomial → List Monomial → List Monomial
all_products [] q = []
all_products (m ∷ p) q = scale_terms m.key m.times q ++ all_products p q

pub alike_add_product : (p q acc : List Monomial) → Alike (add_product p q acc) (all_products p q ++ acc)
unfolding add_product all_products
alike_add_product [] q acc k = refl
alike_add_product (m ∷ p) q acc k =
    let s = scale_terms m.key m.times q in
    alike_add s (add_product p q acc) k ∙ alike_append s s (add_product p q acc) (all_products p q ++ acc) (λ _. refl) (alike_add_product p q acc) k ∙ ap (coefficient_at k) (sym (append_assoc s (all_products p q) acc))

scale_append : (d : ℕ) (x : ℤ) (s t : List Monomial) → scale_terms d x (s ++ t) ≡ scale_terms d x s ++ scale_terms d x t
unfolding scale_terms
scale_append d x [] t = refl
scale_append d x (m ∷ s) t = ap (λ l. monomial (d + m.key) (x *ℤ m.times) ∷ l) (scale_append d x s t)

scale_raised : (d g : ℕ) (x : ℤ) (s : List Monomial) → scale_terms d x (raised g s) ≡ raised g (scale_terms d x s)
unfolding scale_terms raised
scale_raised d g x [] = refl
scale_raised d g x (m ∷ s) = let e : d + (g + m.key) ≡ g + (d + m.key) = omega arith in ap₂ (λ k l. monomial k (x *ℤ m.times) ∷ l) e (scale_raised d g x s)

raised_scale : (d g : ℕ) (x : ℤ) (s : List Monomial) → scale_terms (g + d) x s ≡ raised g (scale_terms d x s)
unfolding scale_terms raised
raised_scale d g x [] = refl
raised_scale d g x (m ∷ s) = let e : g + d + m.key ≡ g + (d + m.key) = omega arith in ap₂ (λ k l. monomial k (x *ℤ m.times) ∷ l) e (raised_scale d g x s)

products-append_left : (s t q : List Monomial) → all_products (s ++ t) q ≡ all_products s q ++ all_products t q
unfolding all_products
products-append_left [] t q = refl
products-append_left (m ∷ s) t q = ap (λ l. scale_terms m.key m.times q ++ l) (products-append_left s t q) ∙ sym (append_assoc (scale_terms m.key m.times q) (all_products s q) (all_products t q))

pub products-raised_left : (g : ℕ) (s q : List Monomial) → all_products (raised g s) q ≡ raised g (all_products s q)
unfolding all_products raised
products-raised_left g [] q = refl
products-raised_left g (m ∷ s) q =
    ap₂ ◌++◌ (raised_scale m.key g m.times q) (products-raised_left g s q) ∙ sym (raised-append g (scale_terms m.key m.times q) (all_products s q))

pub products-raised_right : (g : ℕ) (s q : List Monomial) → all_products s (raised g q) ≡ raised g (all_products s q)
unfolding all_products
products-raised_right g [] q = unfold raised in refl
products-raised_right g (m ∷ s) q =
    ap₂ ◌++◌ (scale_raised m.key g m.times q) (products-raised_right g s q) ∙ sym (raised-append g (scale_terms m.key m.times q) (all_products s q))

products-append_right : (p s t : List Monomial) → Alike (all_products p (s ++ t)) (all_products p s ++ all_products p t)
unfolding all_products
products-append_right [] s t k = refl
products-append_right (m ∷ p) s t k =
    let x = scale_terms m.key m.times s in
    let y = scale_terms m.key m.times t in
    ap (λ l. coefficient_at k (l ++ all_products p (s ++ t))) (scale_append m.key m.times s t)
    ∙ alike_append (x ++ y) (x ++ y) (all_products p (s ++ t)) (all_products p s ++ all_products p t) (λ _. refl) (products-append_right p s t) k ∙ alike_exchange x y (all_products p s) (all_products p t) k

products_nil : (p : List Monomial) → all_products p [] ≡ []
unfolding all_products scale_terms
products_nil [] = refl
products_nil (m ∷ p) = products_nil p

alike_constant-product : (x y : ℤ) → Alike (constant_terms (x *ℤ y)) (all_products (constant_terms x) (constant_terms y))
alike_constant-product x y =
    constant_cases x (λ ts. Alike (constant_terms (x *ℤ y)) (all_products ts (constant_terms y)))
    (λ e k. ap (coefficient_at k) (ap (λ u. constant_terms (u *ℤ y)) e ∙ ap constant_terms (zero-*ℤ y) ∙ constant_zero ∙ sym (products_none (constant_terms y))))
    (λ h.
    constant_cases y (λ ts. Alike (constant_terms (x *ℤ y)) (all_products (monomial 0 x ∷ []) ts))
    (λ e k. ap (coefficient_at k) (ap (λ u. constant_terms (x *ℤ u)) e ∙ ap constant_terms (*ℤ-zero x) ∙ constant_zero ∙ sym (products_nil (monomial 0 x ∷ []))))
    (λ g k. ap (coefficient_at k) (constant_not_zero (x *ℤ y) (not_zero_mul x y h g) ∙ one x y)))
  where
    products_none : (q : List Monomial) → all_products [] q ≡ []
    products_none q = unfold all_products in refl

    one : (x y : ℤ) → monomial 0 (x *ℤ y) ∷ [] ≡ all_products (monomial 0 x ∷ []) (monomial 0 y ∷ [])
    one x y = unfold all_products scale_terms in refl

-- a list of coefficients, each times c
pub alike_times : (n : ℕ) (c : Poly) → ((b : Poly) → Alike (flat n (product n c b)) (all_products (flat n c) (flat n b))) → (cs : List Poly) → Alike (flats n (map_poly (product n c) cs)) (all_products (flat n c) (flats n cs))
unfolding flats map_poly
alike_times n c h [] k = ap (coefficient_at k) (sym (products_nil (flat n c)))
alike_times n c h (b ∷ cs) k =
    let g = 32 ^ n in
    let p = flat n c in
    alike_append (flat n (product n c b)) (all_products p (flat n b)) (raised g (flats n (map_poly (product n c) cs))) (raised g (all_products p (flats n cs))) (h b) (alike_raised g (flats n (map_poly (product n c) cs)) (all_products p (flats n cs)) (alike_times n c h cs)) k
    ∙ ap (λ l. coefficient_at k (all_products p (flat n b) ++ l)) (sym (products-raised_right g p (flats n cs))) ∙ sym (products-append_right p (flat n b) (raised g (flats n cs)) k)

alike_product_by : (n : ℕ) → ((a b : Poly) → Alike (flat n (product n a b)) (all_products (flat n a) (flat n b))) → (p q : List Poly) → Alike (flats n (product_by (sum n) (product n) (zero_poly n) p q)) (all_products (flats n p) (flats n q))
unfolding flats product_by
alike_product_by n h [] q k = unfold all_products in refl
alike_product_by n h (a ∷ p) q k =
    let g = 32 ^ n in
    let pq = product_by (sum n) (product n) (zero_poly n) p q in
    alike_sum_by n (alike_sum n) (map_poly (product n a) q) (zero_poly n ∷ pq) k
    ∙ alike_append (flats n (map_poly (product n a) q)) (all_products (flat n a) (flats n q)) (flats n (zero_poly n ∷ pq)) (raised g (all_products (flats n p) (flats n q))) (alike_times n a (h a) q)
    (λ j. ap (λ l. coefficient_at j (l ++ raised g (flats n pq))) (flat_zero n (zero_poly n) (zero_is n)) ∙ alike_raised g (flats n pq) (all_products (flats n p) (flats n q)) (alike_product_by n h p q) j) k
    ∙ ap (λ l. coefficient_at k (all_products (flat n a) (flats n q) ++ l)) (sym (products-raised_left g (flats n p) (flats n q))) ∙ ap (coefficient_at k) (sym (products-append_left (flat n a) (raised g (flats n p)) (flats n q)))

pub alike_product : (n : ℕ) (p q : Poly) → Alike (flat n (product n p q)) (all_products (flat n p) (flat n q))
unfolding product
alike_product zero p q k = unfold flat in alike_constant-product (the_number p) (the_number q) k
alike_product (suc n) p q k =
    ap (coefficient_at k) (flat_trimmed n (product_by (sum n) (product n) (zero_poly n) (coefs p) (coefs q))) ∙ alike_product_by n (alike_product n) (coefs p) (coefs q) k
    ∙ ap₂ (λ s t. coefficient_at k (all_products s t)) (sym (flat-coefs n p)) (sym (flat-coefs n q))

pub flat_product : (a b n : ℕ) (p q : Poly) → suc a + b ≤ 32 → Canon (suc a) n p → Canon (suc b) n q → flat n (product n p q) ≡ mul_terms (flat n p) (flat n q)
flat_product a b n p q l d k =
    let g = 32 ^ n in
    rising_unique 0 (g + g) (flat n (product n p q)) (mul_terms (flat n p) (flat n q))
    (rising_wider 0 g 0 (g + g) (flat n (product n p q)) (omega arith) (omega arith) (flat_rising (suc a + b) n (product n p q) l (Canon-product (suc a) b n p q d k)))
    (rising-product 0 g g (flat n p) (flat n q) [] (flat_rising (suc a) n p (omega arith) d) (flat_rising (suc b) n q (omega arith) k) (unfold Rising in tt))
    (λ j. alike_product n p q j ∙ sym (alike_add_product (flat n p) (flat n q) [] j ∙ ap (coefficient_at j) (append-nil (all_products (flat n p) (flat n q)))))
