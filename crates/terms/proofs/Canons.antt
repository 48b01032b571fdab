-- What is made of polynomials whose lists are trimmed and not long is so too. Assumes nothing.
use Rattle.std.proofs.Common.{◌≡◌, ℕ, zero, suc, ◌+◌, ◌-◌, ◌≤◌, Bool, true, false, cond, not, ◌&&◌, T, List, [], ◌∷◌, length, ℤ, pos, negsuc, neg_ℤ, sym, refl, ap, ◌∙◌, subst, ap₂, arith}
use lib.Dec.{eqb-suc-zero}
use Rattle.poly.specs.Poly.{Poly, Number, End, Coef, from_coefs, coefs, is_zero_number, is_zero, all_zero, zero_poly, trim}
use Rattle.poly.specs.Arithmetic.{constant, variable, sum_by, sum, map_poly, product_by, product, negative}
use Rattle.poly.specs.Leading.{last_or, leading, without_last, without_leading, scaled, without_first, derivative, shifted}
use Rattle.poly.specs.Division.{division_step}
use Rattle.poly.specs.Value.{Depth}
use Rattle.poly.proofs.Depth.{Depth-negative, Depth-from_coefs, Depths}
use Rattle.poly.proofs.Leading.{coefs-from_coefs}
use Rattle.terms.specs.Canon.{Trimmed, AllOf, Canon}
use Rattle.terms.proofs.Tests.{on_test, T-both, both_T}

-- lists
pub all_map : (P Q : Poly → Type 0) (g : Poly → Poly) → ((c : Poly) → P c → Q (g c)) → (cs : List Poly) → AllOf P cs → AllOf Q (map_poly g cs)
unfolding AllOf map_poly
all_map P Q g h [] d = tt
all_map P Q g h (c ∷ cs) d = (h c d.0, all_map P Q g h cs d.1)

all_one : (P : Poly → Type 0) (c : Poly) → P c → AllOf P (c ∷ [])
unfolding AllOf
all_one P c h = (h, tt)

pub all-imply : (P Q : Poly → Type 0) → ((c : Poly) → P c → Q c) → (cs : List Poly) → AllOf P cs → AllOf Q cs
unfolding AllOf
all-imply P Q h [] d = tt
all-imply P Q h (c ∷ cs) d = (h c d.0, all-imply P Q h cs d.1)

-- the two cases of trimming
pub trim_cases : (c : Poly) (cs : List Poly) (P : List Poly → Type 0) → (T (all_zero (c ∷ cs)) → P []) → (T (not (all_zero (c ∷ cs))) → P (c ∷ trim cs)) → P (trim (c ∷ cs))
unfolding trim all_zero
trim_cases c cs P h k = on_test (is_zero c && all_zero cs) (λ b. P (cond b [] (c ∷ trim cs))) h k

all-trim : (P : Poly → Type 0) (cs : List Poly) → AllOf P cs → AllOf P (trim cs)
unfolding AllOf
all-trim P [] d = unfold trim in tt
all-trim P (c ∷ cs) d = let ih = all-trim P cs d.1 in trim_cases c cs (AllOf P) (λ t. tt) (λ t. (d.0, ih))

length-trim : (b : ℕ) (cs : List Poly) → length cs ≤ b → length (trim cs) ≤ b
length-trim b [] l = unfold trim in l
length-trim b (c ∷ cs) l = let ih = length-trim (b - 1) cs (omega arith) in trim_cases c cs (λ ds. length ds ≤ b) (λ t. omega arith) (λ t. omega arith)

zero_trim : (cs : List Poly) → T (all_zero (trim cs)) → T (all_zero cs)
unfolding all_zero
zero_trim [] t = tt
zero_trim (c ∷ cs) t =
    let ih = zero_trim cs in
    let all : T (all_zero (trim (c ∷ cs))) → T (all_zero (c ∷ cs)) =
    trim_cases c cs (λ ds. T (all_zero ds) → T (all_zero (c ∷ cs))) (λ t _. t) (λ t s. let (tc, ts) = T-both (is_zero c) (all_zero (trim cs)) s in both_T (is_zero c) (all_zero cs) tc (ih ts)) in
    all t

trimmed_trim : (cs : List Poly) → Trimmed (trim cs)
unfolding Trimmed
trimmed_trim [] = unfold trim in tt
trimmed_trim (c ∷ cs) =
    let ih = trimmed_trim cs in
    trim_cases c cs Trimmed (λ t. tt) (λ t. (unfold all_zero in still (is_zero c) (all_zero cs) (all_zero (trim cs)) (zero_trim cs) t, ih))
  where
    still : (a b d : Bool) → (T d → T b) → T (not (a && b)) → T (not (a && d))
    still false b d h t = tt
    still true b false h t = tt
    still true true true h t = t
    still true false true h t = absurd (h tt)

pub trimmed_is : (cs : List Poly) → Trimmed cs → trim cs ≡ cs
unfolding Trimmed
trimmed_is [] d = unfold trim in refl
trimmed_is (c ∷ cs) d =
    let ih = trimmed_is cs d.1 in
    trim_cases c cs (λ ds. ds ≡ c ∷ cs) (λ t. absurd (clash (all_zero (c ∷ cs)) t d.0)) (λ t. ap (λ ds. c ∷ ds) ih)
  where
    clash : (b : Bool) → T b → T (not b) → ⊥
    clash true s t = t
    clash false s t = s

pub canon_trimmed : (b n : ℕ) (cs : List Poly) → length cs ≤ b → AllOf (Canon b n) cs → Canon b (suc n) (from_coefs (trim cs))
unfolding Canon
canon_trimmed b n cs l d =
    let e = coefs-from_coefs (trim cs) in (
      ap from_coefs (sym e),
      subst (λ ds. length ds ≤ b) (sym e) (length-trim b cs l),
      subst Trimmed (sym e) (trimmed_trim cs),
      subst (AllOf (Canon b n)) (sym e) (all-trim (Canon b n) cs d),
    )

pub Canon-wider : (a b n : ℕ) (p : Poly) → a ≤ b → Canon a n p → Canon b n p
unfolding Canon
Canon-wider a b zero p l d = d
Canon-wider a b (suc n) p l d = (d.0, omega (arith, d.1), d.2, all-imply (Canon a n) (Canon b n) (λ c. Canon-wider a b n c l) (coefs p) d.3)

depths : (n : ℕ) (cs : List Poly) → AllOf (Depth n) cs → Depths n cs
unfolding AllOf
depths n [] d = tt
depths n (c ∷ cs) d = (d.0, depths n cs d.1)

pub Canon-Depth : (b n : ℕ) (p : Poly) → Canon b n p → Depth n p
unfolding Canon
Canon-Depth b zero p d = d
Canon-Depth b (suc n) p d = subst (Depth (suc n)) (sym d.0) (Depth-from_coefs n (coefs p) (depths n (coefs p) (all-imply (Canon b n) (Depth n) (Canon-Depth b n) (coefs p) d.3)))

pub Canon-zero_poly : (b n : ℕ) → Canon b n (zero_poly n)
unfolding Canon coefs from_coefs Trimmed AllOf Depth
Canon-zero_poly b zero = tt
Canon-zero_poly b (suc n) = (refl, omega arith, tt, tt)

pub Canon-constant : (b n : ℕ) (z : ℤ) → 1 ≤ b → Canon b n (constant n z)
unfolding constant
Canon-constant b zero z l = unfold Canon Depth in tt
Canon-constant b (suc n) z l = canon_trimmed b n (constant n z ∷ []) l (all_one (Canon b n) (constant n z) (Canon-constant b n z l))

is_zero-one : (n : ℕ) → is_zero (constant n (pos 1)) ≡ false
unfolding constant trim all_zero from_coefs
is_zero-one zero = refl
is_zero-one (suc n) = ap (λ b. is_zero (from_coefs (cond (b && true) [] (constant n (pos 1) ∷ [])))) (is_zero-one n)

pub Canon-variable : (b n i : ℕ) → 2 ≤ b → Canon b n (variable n i)
unfolding variable
Canon-variable b zero i l = unfold Canon Depth in tt
Canon-variable b (suc n) zero l =
    let cs = zero_poly n ∷ constant n (pos 1) ∷ [] in
    let d : AllOf (Canon b n) cs = unfold AllOf in (Canon-zero_poly b n, (Canon-constant b n (pos 1) (omega arith), tt)) in
    let e : trim cs ≡ cs = trimmed_is cs (unfold Trimmed all_zero in (last (is_zero (zero_poly n)), (one, tt))) in
    subst (λ ds. Canon b (suc n) (from_coefs ds)) e (canon_trimmed b n cs l d)
  where
    one : T (not (is_zero (constant n (pos 1)) && true))
    one = subst (λ b. T (not (b && true))) (sym (is_zero-one n)) tt

    last : (a : Bool) → T (not (a && (is_zero (constant n (pos 1)) && true)))
    last true = one
    last false = tt
Canon-variable b (suc n) (suc i) l = canon_trimmed b n (variable n i ∷ []) (omega arith) (all_one (Canon b n) (variable n i) (Canon-variable b n i l))

-- sums
pub all-sum_by : (P : Poly → Type 0) (f : Poly → Poly → Poly) → ((x y : Poly) → P x → P y → P (f x y)) → (p q : List Poly) → AllOf P p → AllOf P q → AllOf P (sum_by f p q)
unfolding AllOf sum_by
all-sum_by P f h [] q d k = k
all-sum_by P f h (x ∷ p) [] d k = d
all-sum_by P f h (x ∷ p) (y ∷ q) d k = (h x y d.0 k.0, all-sum_by P f h p q d.1 k.1)

pub length-sum_by : (b : ℕ) (f : Poly → Poly → Poly) (p q : List Poly) → length p ≤ b → length q ≤ b → length (sum_by f p q) ≤ b
unfolding sum_by
length-sum_by b f [] q l m = m
length-sum_by b f (x ∷ p) [] l m = l
length-sum_by b f (x ∷ p) (y ∷ q) l m = let ih = length-sum_by (b - 1) f p q (omega arith) (omega arith) in omega arith

pub Canon-sum : (b n : ℕ) (p q : Poly) → Canon b n p → Canon b n q → Canon b n (sum n p q)
unfolding Canon sum
Canon-sum b zero p q d k = unfold Depth in tt
Canon-sum b (suc n) p q d k =
    canon_trimmed b n (sum_by (sum n) (coefs p) (coefs q)) (length-sum_by b (sum n) (coefs p) (coefs q) d.1 k.1)
    (all-sum_by (Canon b n) (sum n) (Canon-sum b n) (coefs p) (coefs q) d.3 k.3)

-- products
length-map : (g : Poly → Poly) (cs : List Poly) → length (map_poly g cs) ≡ length cs
unfolding map_poly
length-map g [] = refl
length-map g (c ∷ cs) = ap suc (length-map g cs)

length-product_by : (b : ℕ) (f g : Poly → Poly → Poly) (z : Poly) (p q : List Poly) → length q ≤ suc b → length (product_by f g z p q) ≤ length p + b
unfolding product_by
length-product_by b f g z [] q l = omega arith
length-product_by b f g z (x ∷ p) q l =
    let ih = length-product_by b f g z p q l in
    length-sum_by (suc (length p) + b) f (map_poly (g x) q) (z ∷ product_by f g z p q) (omega (arith, length-map (g x) q)) (omega arith)

all-product_by : (P A B : Poly → Type 0) (f g : Poly → Poly → Poly) (z : Poly) → P z → ((x y : Poly) → P x → P y → P (f x y)) → ((x y : Poly) → A x → B y → P (g x y)) →
    (p q : List Poly) → AllOf A p → AllOf B q → AllOf P (product_by f g z p q)
unfolding AllOf product_by
all-product_by P A B f g z hz hf hg [] q d k = tt
all-product_by P A B f g z hz hf hg (x ∷ p) q d k =
    all-sum_by P f hf (map_poly (g x) q) (z ∷ product_by f g z p q) (all_map B P (g x) (λ y. hg x y d.0) q k) (hz, all-product_by P A B f g z hz hf hg p q d.1 k)

pub Canon-product : (a b n : ℕ) (p q : Poly) → Canon a n p → Canon (suc b) n q → Canon (a + b) n (product n p q)
unfolding Canon product
Canon-product a b zero p q d k = unfold Depth in tt
Canon-product a b (suc n) p q d k =
    canon_trimmed (a + b) n (product_by (sum n) (product n) (zero_poly n) (coefs p) (coefs q))
    (omega (arith, d.1, length-product_by b (sum n) (product n) (zero_poly n) (coefs p) (coefs q) k.1))
    (all-product_by (Canon (a + b) n) (Canon a n) (Canon (suc b) n) (sum n) (product n) (zero_poly n) (Canon-zero_poly (a + b) n) (Canon-sum (a + b) n) (Canon-product a b n) (coefs p) (coefs q) d.3 k.3)

-- a list of coefficients, each times c
pub canon-times : (a b n : ℕ) (c : Poly) (cs : List Poly) → 1 ≤ a → Canon a n c → length cs ≤ suc b → AllOf (Canon (suc b) n) cs → Canon (a + b) (suc n) (from_coefs (trim (map_poly (product n c) cs)))
canon-times a b n c cs l h m d =
    canon_trimmed (a + b) n (map_poly (product n c) cs) (omega (arith, length-map (product n c) cs))
    (all_map (Canon (suc b) n) (Canon (a + b) n) (product n c) (λ x. Canon-product a b n c x h) cs d)

-- negatives
is_zero-neg : (z : ℤ) → is_zero_number (neg_ℤ z) ≡ is_zero_number z
is_zero-neg (pos zero) = refl
is_zero-neg (pos (suc n)) = sym (eqb-suc-zero n)
is_zero-neg (negsuc n) = eqb-suc-zero n

is_zero_negatives : (n : ℕ) (cs : List Poly) → is_zero (from_coefs (map_poly (negative n) cs)) ≡ is_zero (from_coefs cs)
unfolding from_coefs map_poly
is_zero_negatives n [] = refl
is_zero_negatives n (c ∷ cs) = refl

pub is_zero-negative : (b n : ℕ) (p : Poly) → Canon b n p → is_zero (negative n p) ≡ is_zero p
unfolding Canon negative Depth
is_zero-negative b zero (Number z) d = is_zero-neg z
is_zero-negative b zero End d = absurd d
is_zero-negative b zero (Coef c r) d = absurd d
is_zero-negative b (suc n) p d = is_zero_negatives n (coefs p) ∙ ap is_zero (sym d.0)

all_zero-negative : (b n : ℕ) (cs : List Poly) → AllOf (Canon b n) cs → all_zero (map_poly (negative n) cs) ≡ all_zero cs
unfolding AllOf all_zero map_poly
all_zero-negative b n [] d = refl
all_zero-negative b n (c ∷ cs) d = ap₂ ◌&&◌ (is_zero-negative b n c d.0) (all_zero-negative b n cs d.1)

trimmed_negative : (b n : ℕ) (cs : List Poly) → AllOf (Canon b n) cs → Trimmed cs → Trimmed (map_poly (negative n) cs)
unfolding AllOf Trimmed map_poly
trimmed_negative b n [] d t = tt
trimmed_negative b n (c ∷ cs) d t = (subst (λ b. T (not b)) (sym (whole d)) t.0, trimmed_negative b n cs d.1 t.1)
  where
    whole : Canon b n c × AllOf (Canon b n) cs → all_zero (negative n c ∷ map_poly (negative n) cs) ≡ all_zero (c ∷ cs)
    whole d = unfold AllOf map_poly in all_zero-negative b n (c ∷ cs) d

-- a trimmed list as it stands
pub canon-coefs : (b n : ℕ) (cs : List Poly) → length cs ≤ b → Trimmed cs → AllOf (Canon b n) cs → Canon b (suc n) (from_coefs cs)
canon-coefs b n cs l t d = subst (λ ds. Canon b (suc n) (from_coefs ds)) (trimmed_is cs t) (canon_trimmed b n cs l d)

pub Canon-negative : (b n : ℕ) (p : Poly) → Canon b n p → Canon b n (negative n p)
unfolding Canon negative
Canon-negative b zero p d = Depth-negative zero p d
Canon-negative b (suc n) p d =
    canon-coefs b n (map_poly (negative n) (coefs p)) (omega (arith, d.1, length-map (negative n) (coefs p))) (trimmed_negative b n (coefs p) d.3 d.2)
    (all_map (Canon b n) (Canon b n) (negative n) (Canon-negative b n) (coefs p) d.3)

-- the first variable
pub all-last : (P : Poly → Type 0) (c : Poly) (cs : List Poly) → P c → AllOf P cs → P (last_or c cs)
unfolding AllOf last_or
all-last P c [] h d = h
all-last P c (e ∷ cs) h d = all-last P e cs d.0 d.1

pub Canon-leading : (b n : ℕ) (p : Poly) → Canon b (suc n) p → Canon b n (leading n p)
unfolding Canon
Canon-leading b n p d = all-last (Canon b n) (zero_poly n) (coefs p) (Canon-zero_poly b n) d.3

pub all-without_last : (P : Poly → Type 0) (cs : List Poly) → AllOf P cs → AllOf P (without_last cs)
unfolding AllOf without_last
all-without_last P [] d = tt
all-without_last P (c ∷ []) d = tt
all-without_last P (c ∷ e ∷ cs) d = (d.0, all-without_last P (e ∷ cs) d.1)

pub length-without_last : (cs : List Poly) → length (without_last cs) ≡ length cs - 1
unfolding without_last
length-without_last [] = omega arith
length-without_last (c ∷ []) = omega arith
length-without_last (c ∷ e ∷ cs) = let ih = length-without_last (e ∷ cs) in omega arith

pub Canon-without_leading : (b n : ℕ) (p : Poly) → Canon b (suc n) p → Canon b (suc n) (without_leading p)
unfolding Canon
Canon-without_leading b n p d = canon_trimmed b n (without_last (coefs p)) (omega (arith, d.1, length-without_last (coefs p))) (all-without_last (Canon b n) (coefs p) d.3)

all-scaled : (b n k : ℕ) (cs : List Poly) → AllOf (Canon (suc b) n) cs → AllOf (Canon (suc b) n) (scaled n k cs)
unfolding AllOf scaled
all-scaled b n k [] d = tt
all-scaled b n k (c ∷ cs) d =
    let e : 1 + b ≡ suc b = omega arith in
    (subst (λ i. Canon i n (product n (constant n (pos k)) c)) e (Canon-product 1 b n (constant n (pos k)) c (Canon-constant 1 n (pos k) (omega arith)) d.0), all-scaled b n (k + 1) cs d.1)

length_scaled : (n k : ℕ) (cs : List Poly) → length (scaled n k cs) ≡ length cs
unfolding scaled
length_scaled n k [] = refl
length_scaled n k (c ∷ cs) = ap suc (length_scaled n (k + 1) cs)

pub Canon-derivative : (b n : ℕ) (p : Poly) → Canon (suc b) (suc n) p → Canon (suc b) (suc n) (derivative n p)
unfolding Canon
Canon-derivative b n p d = go (coefs p) d.1 d.3
  where
    go : (cs : List Poly) → length cs ≤ suc b → AllOf (Canon (suc b) n) cs → Canon (suc b) (suc n) (from_coefs (trim (scaled n 1 (without_first cs))))
    go [] l d = canon_trimmed (suc b) n (scaled n 1 []) (omega (arith, length_scaled n 1 [])) (all-scaled b n 1 [] d)
    go (c ∷ cs) l d = canon_trimmed (suc b) n (scaled n 1 cs) (omega (arith, length_scaled n 1 cs)) (all-scaled b n 1 cs (unfold AllOf in d.1))

all-shifted : (b n k : ℕ) (cs : List Poly) → AllOf (Canon b n) cs → AllOf (Canon b n) (shifted n k cs)
unfolding AllOf shifted
all-shifted b n zero cs d = d
all-shifted b n (suc k) cs d = (Canon-zero_poly b n, all-shifted b n k cs d)

length-shifted : (n k : ℕ) (cs : List Poly) → length (shifted n k cs) ≡ k + length cs
unfolding shifted
length-shifted n zero cs = omega arith
length-shifted n (suc k) cs = let ih = length-shifted n k cs in omega arith

pub Canon-division_step : (b n : ℕ) (p s : Poly) → Canon (suc b) (suc n) p → Canon (suc b) (suc n) s → Canon (suc b + b) (suc n) (division_step n p s)
unfolding Canon
Canon-division_step b n p s d h =
    let k = length (coefs s) - length (coefs p) in
    let m = shifted n k (coefs p) in
    Canon-sum (suc b + b) (suc n) (from_coefs (trim (map_poly (product n (leading n p)) (coefs s)))) (negative (suc n) (from_coefs (trim (map_poly (product n (leading n s)) m))))
    (canon-times (suc b) b n (leading n p) (coefs s) (omega arith) (Canon-leading (suc b) n p d) h.1 h.3)
    (Canon-negative (suc b + b) (suc n) (from_coefs (trim (map_poly (product n (leading n s)) m)))
    (canon-times (suc b) b n (leading n s) m (omega arith) (Canon-leading (suc b) n s h) (omega (arith, d.1, h.1, length-shifted n k (coefs p))) (all-shifted (suc b) n k (coefs p) d.3)))
