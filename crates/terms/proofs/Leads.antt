-- The leading coefficient, what is left without it, the degree and the derivative by monomials. Assumes nothing.
use Rattle.std.proofs.Common.{◌≡◌, ℕ, suc, ◌+◌, ◌-◌, ◌*◌, ◌/◌, ◌^◌, ◌<◌, ◌≤◌, true, ◌&&◌, T, List, [], ◌∷◌, ◌++◌, length, take, drop, pos, ◌*ℤ◌, sym, refl, ap, ◌∙◌, subst, ap₂, append_assoc, suc-mul, zero-mul, arith, T_not}
use native.Mathlib.Nat.{zero-div}
use lib.Arith.{digits_div}
use Rattle.poly.specs.Poly.{Poly, coefs, is_zero, all_zero, zero_poly}
use Rattle.poly.specs.Arithmetic.{constant, product}
use Rattle.poly.specs.Leading.{last_or, leading, without_last, without_leading, scaled, without_first, derivative, degree}
use Rattle.terms.specs.Monomial.{Monomial, monomial, raised, flat, Rising}
use Rattle.terms.specs.Operations.{scale_terms, add_product, mul_terms}
use Rattle.terms.specs.LeadingTerms.{last_key, degree_terms, length_terms, count_below, lowered, leading_key, leading_terms, prefix_terms, slopes, derivative_terms}
use Rattle.terms.specs.Canon.{Trimmed, AllOf, Canon}
use Rattle.terms.proofs.Tests.{both_T}
use Rattle.terms.proofs.Integers.{positive}
use Rattle.terms.proofs.Rises.{rising_wider, rising-raised}
use Rattle.terms.proofs.Merges.{add_none}
use Rattle.terms.proofs.Split.{below_split, from_split, lowered-raised}
use Rattle.terms.proofs.Canons.{all-last, all-without_last, length-without_last, Canon-constant}
use Rattle.terms.proofs.Flat.{flats, flat-coefs, flat_trimmed, flat_zero, zero_is, zero_flat, flat_rising, rising_list, other_flats}
use Rattle.terms.proofs.Sums.{constant_not_zero, raised-append, flat_product}
use Rattle.terms.proofs.Variables.{flats_one, flat_constant}

raised_none : (s : List Monomial) → raised 0 s ≡ s
unfolding raised
raised_none [] = refl
raised_none (m ∷ s) = let e : 0 + m.key ≡ m.key = omega arith in ap₂ (λ k l. monomial k m.times ∷ l) e (raised_none s)

pub raised-raised : (d e : ℕ) (s : List Monomial) → raised d (raised e s) ≡ raised (d + e) s
unfolding raised
raised-raised d e [] = refl
raised-raised d e (m ∷ s) = let q : d + (e + m.key) ≡ d + e + m.key = omega arith in ap₂ (λ k l. monomial k m.times ∷ l) q (raised-raised d e s)

pub raised_zero : (n : ℕ) (s : List Monomial) → raised (0 * 32 ^ n) s ≡ s
raised_zero n s = ap (λ d. raised d s) (zero-mul (32 ^ n)) ∙ raised_none s

-- the last coefficient's monomials stand last
flats_last : (n : ℕ) (c : Poly) (cs : List Poly) → flats n (c ∷ cs) ≡ flats n (without_last (c ∷ cs)) ++ raised (length cs * 32 ^ n) (flat n (last_or c cs))
unfolding flats without_last last_or
flats_last n c [] = flats_one n c ∙ sym (raised_zero n (flat n c))
flats_last n c (d ∷ cs) =
    let g = 32 ^ n in
    let s = flats n (without_last (d ∷ cs)) in
    let t = flat n (last_or d cs) in
    let e : g + length cs * g ≡ suc (length cs) * g = omega (arith, suc-mul (length cs) g) in
    ap (λ l. flat n c ++ raised g l) (flats_last n d cs) ∙ ap (λ l. flat n c ++ l) (raised-append g s (raised (length cs * g) t) ∙ ap (λ l. raised g s ++ l) (raised-raised g (length cs * g) t ∙ ap (λ i. raised i t) e))
    ∙ sym (append_assoc (flat n c) (raised g s) (raised (suc (length cs) * g) t))

pub last_not_zero : (c : Poly) (cs : List Poly) → Trimmed (c ∷ cs) → T (is_zero (last_or c cs)) → ⊥
unfolding Trimmed all_zero last_or
last_not_zero c [] d t = T_not (is_zero c && true) d.0 (both_T (is_zero c) true t tt)
last_not_zero c (e ∷ cs) d t = last_not_zero e cs d.1 t

last_key-append : (s : List Monomial) (m : Monomial) (t : List Monomial) → last_key (s ++ (m ∷ t)) ≡ last_key (m ∷ t)
unfolding last_key
last_key-append [] m t = refl
last_key-append (a ∷ []) m t = refl
last_key-append (a ∷ b ∷ s) m t = last_key-append (b ∷ s) m t

last_key-raised : (d : ℕ) (m : Monomial) (s : List Monomial) → last_key (raised d (m ∷ s)) ≡ d + last_key (m ∷ s)
unfolding last_key raised
last_key-raised d m [] = refl
last_key-raised d m (k ∷ s) = last_key-raised d k s

last_key-joined : (d : ℕ) (s : List Monomial) (m : Monomial) (t : List Monomial) → last_key (s ++ raised d (m ∷ t)) ≡ d + last_key (m ∷ t)
unfolding raised
last_key-joined d s m t = last_key-append s (monomial (d + m.key) m.times) (raised d t) ∙ last_key-raised d m t

joined_not_empty : (d : ℕ) (s : List Monomial) (m : Monomial) (t : List Monomial) → s ++ raised d (m ∷ t) ≡ [] → ⊥
unfolding raised
joined_not_empty d [] m t e = let z : ◌≡◌ {A = ℕ} 0 1 = cc in omega arith
joined_not_empty d (a ∷ s) m t e = let z : ◌≡◌ {A = ℕ} 0 1 = cc in omega arith

length-degree : (n : ℕ) (ts : List Monomial) → (ts ≡ [] → ⊥) → length_terms n ts ≡ suc (degree_terms n ts)
length-degree n [] h = absurd (h refl)
length-degree n (m ∷ ts) h = omega arith

last_key-below : (lo hi : ℕ) (m : Monomial) (s : List Monomial) → Rising lo hi (m ∷ s) → last_key (m ∷ s) < hi
unfolding last_key Rising
last_key-below lo hi m [] r = r.1
last_key-below lo hi m (k ∷ s) r = last_key-below (suc m.key) hi k s r.3

-- what is known of a list of coefficients that isn't empty
pub record Lead (n : ℕ) (c : Poly) (cs : List Poly) : Type 0 where
  pub degree_is : degree_terms n (flats n (c ∷ cs)) ≡ length cs
  pub length_is : length_terms n (flats n (c ∷ cs)) ≡ suc (length cs)
  pub leading_is : leading_terms n (flats n (c ∷ cs)) ≡ flat n (last_or c cs)
  pub prefix_is : prefix_terms n (flats n (c ∷ cs)) ≡ flats n (without_last (c ∷ cs))

pub lead : (b n : ℕ) (c : Poly) (cs : List Poly) → b ≤ 32 → AllOf (Canon b n) (c ∷ cs) → Trimmed (c ∷ cs) → Lead n c cs
unfolding AllOf
lead b n c cs l d t = go (flat n (last_or c cs)) refl (all-last (Canon b n) c cs d.0 d.1) (all-without_last (Canon b n) (c ∷ cs) d)
  where
    go : (ts : List Monomial) → flat n (last_or c cs) ≡ ts → Canon b n (last_or c cs) → AllOf (Canon b n) (without_last (c ∷ cs)) → Lead n c cs
    go [] e dl dw = absurd (last_not_zero c cs t (zero_flat b n (last_or c cs) dl e))
    go (m ∷ ts) e dl dw =
        let g = 32 ^ n in
        let w = flats n (without_last (c ∷ cs)) in
        let less : suc (length cs) - 1 ≡ length cs = omega arith in
        let r : Rising 0 g (m ∷ ts) = subst (Rising 0 g) e (flat_rising b n (last_or c cs) l dl) in
        let q : Rising 0 (length cs * g) w = subst (λ i. Rising 0 (i * g) w) (length-without_last (c ∷ cs) ∙ less) (rising_list b n (without_last (c ∷ cs)) l dw) in
        let u : Rising (length cs * g) (length cs * g + g) (raised (length cs * g) (m ∷ ts)) =
        rising_wider (length cs * g + 0) (length cs * g + g) (length cs * g) (length cs * g + g) (raised (length cs * g) (m ∷ ts)) (omega arith) (omega arith) (rising-raised (length cs * g) 0 g (m ∷ ts) r) in
        let whole : flats n (c ∷ cs) ≡ w ++ raised (length cs * g) (m ∷ ts) = flats_last n c cs ∙ ap (λ s. w ++ raised (length cs * g) s) e in
        let key : last_key (flats n (c ∷ cs)) ≡ length cs * g + last_key (m ∷ ts) = ap last_key whole ∙ last_key-joined (length cs * g) w m ts in
        let deg : degree_terms n (flats n (c ∷ cs)) ≡ length cs = ap (λ k. k / g) key ∙ digits_div (length cs) (last_key-below 0 g m ts r) in
        let at : leading_key n (flats n (c ∷ cs)) ≡ length cs * g = ap (λ i. i * g) deg in
        let y = w ++ raised (length cs * g) (m ∷ ts) in
        record {
          degree_is = deg;
          length_is = length-degree n (flats n (c ∷ cs)) (λ z. joined_not_empty (length cs * g) w m ts (sym whole ∙ z)) ∙ ap suc deg;
          leading_is =
              ap₂ (λ k x. lowered k (drop (count_below k x) x)) at whole ∙ ap (lowered (length cs * g)) (from_split 0 (length cs * g) (length cs * g + g) w (raised (length cs * g) (m ∷ ts)) q u)
              ∙ lowered-raised (length cs * g) (m ∷ ts) ∙ sym e;
          prefix_is = ap₂ (λ k x. take (count_below k x) x) at whole ∙ below_split 0 (length cs * g) (length cs * g + g) w (raised (length cs * g) (m ∷ ts)) q u;
        }

-- the same of a polynomial
pub flat_length : (b n : ℕ) (p : Poly) → b ≤ 32 → Canon b (suc n) p → length (coefs p) ≡ length_terms n (flat (suc n) p)
unfolding Canon
flat_length b n p l d = go (coefs p) d.3 d.2 ∙ ap (length_terms n) (sym (flat-coefs n p))
  where
    go : (cs : List Poly) → AllOf (Canon b n) cs → Trimmed cs → length cs ≡ length_terms n (flats n cs)
    go [] d t = unfold flats in refl
    go (c ∷ cs) d t = sym (lead b n c cs l d t).length_is

pub flat_degree : (b n : ℕ) (p : Poly) → b ≤ 32 → Canon b (suc n) p → degree p ≡ degree_terms n (flat (suc n) p)
unfolding Canon
flat_degree b n p l d = go (coefs p) d.3 d.2 ∙ ap (degree_terms n) (sym (flat-coefs n p))
  where
    go : (cs : List Poly) → AllOf (Canon b n) cs → Trimmed cs → length cs - 1 ≡ degree_terms n (flats n cs)
    go [] d t = unfold flats last_key in sym (zero-div (32 ^ n))
    go (c ∷ cs) d t = let e : suc (length cs) - 1 ≡ length cs = omega arith in e ∙ sym (lead b n c cs l d t).degree_is

pub flat_leading : (b n : ℕ) (p : Poly) → b ≤ 32 → Canon b (suc n) p → flat n (leading n p) ≡ leading_terms n (flat (suc n) p)
unfolding Canon
flat_leading b n p l d = go (coefs p) d.3 d.2 ∙ ap (leading_terms n) (sym (flat-coefs n p))
  where
    none : leading_terms n [] ≡ []
    none = unfold lowered count_below in refl

    go : (cs : List Poly) → AllOf (Canon b n) cs → Trimmed cs → flat n (last_or (zero_poly n) cs) ≡ leading_terms n (flats n cs)
    go [] d t = unfold last_or flats in flat_zero n (zero_poly n) (zero_is n) ∙ sym none
    go (c ∷ cs) d t = unfold last_or in sym (lead b n c cs l d t).leading_is

pub flat_without_leading : (b n : ℕ) (p : Poly) → b ≤ 32 → Canon b (suc n) p → flat (suc n) (without_leading p) ≡ prefix_terms n (flat (suc n) p)
unfolding Canon
flat_without_leading b n p l d = flat_trimmed n (without_last (coefs p)) ∙ go (coefs p) d.3 d.2 ∙ ap (prefix_terms n) (sym (flat-coefs n p))
  where
    go : (cs : List Poly) → AllOf (Canon b n) cs → Trimmed cs → flats n (without_last cs) ≡ prefix_terms n (flats n cs)
    go [] d t = unfold without_last flats count_below in refl
    go (c ∷ cs) d t = sym (lead b n c cs l d t).prefix_is

-- the derivative
slopes-append : (n : ℕ) (s t : List Monomial) → slopes n (s ++ t) ≡ slopes n s ++ slopes n t
unfolding slopes
slopes-append n [] t = refl
slopes-append n (m ∷ s) t = ap (λ l. monomial (m.key - 32 ^ n) (pos (m.key / 32 ^ n) *ℤ m.times) ∷ l) (slopes-append n s t)

-- one coefficient, that of the power j + 1
slopes-one : (n j lo : ℕ) (s : List Monomial) → Rising lo (32 ^ n) s → slopes n (raised (suc j * 32 ^ n) s) ≡ raised (j * 32 ^ n) (scale_terms 0 (pos (suc j)) s)
unfolding slopes raised scale_terms Rising
slopes-one n j lo [] r = refl
slopes-one n j lo (m ∷ s) r =
    let g = 32 ^ n in
    let k : suc j * g + m.key - g ≡ j * g + (0 + m.key) = omega (arith, suc-mul j g) in
    ap₂ ◌∷◌ (ap₂ monomial k (ap (λ i. pos i *ℤ m.times) (digits_div (suc j) r.1))) (slopes-one n j (suc m.key) s r.3)

flat-times : (b n k : ℕ) (c : Poly) → suc b ≤ 32 → Canon (suc b) n c → flat n (product n (constant n (pos (suc k))) c) ≡ scale_terms 0 (pos (suc k)) (flat n c)
flat-times b n k c l d =
    flat_product 0 b n (constant n (pos (suc k))) c (omega arith) (Canon-constant 1 n (pos (suc k)) (omega arith)) d ∙ ap (λ ts. mul_terms ts (flat n c)) (flat_constant n (pos (suc k)) ∙ constant_not_zero (pos (suc k)) (positive (suc k) (omega arith)))
    ∙ once
  where
    once : mul_terms (monomial 0 (pos (suc k)) ∷ []) (flat n c) ≡ scale_terms 0 (pos (suc k)) (flat n c)
    once = unfold add_product in add_none (scale_terms 0 (pos (suc k)) (flat n c))

slopes_flats : (b n j : ℕ) (cs : List Poly) → suc b ≤ 32 → AllOf (Canon (suc b) n) cs → slopes n (raised (suc j * 32 ^ n) (flats n cs)) ≡ raised (j * 32 ^ n) (flats n (scaled n (suc j) cs))
unfolding AllOf flats scaled
slopes_flats b n j [] l d = unfold raised slopes in refl
slopes_flats b n j (c ∷ cs) l d =
    let g = 32 ^ n in
    let e : suc j * g + g ≡ suc (suc j) * g = omega (arith, suc-mul (suc j) g) in
    let f : j * g + g ≡ suc j * g = omega (arith, suc-mul j g) in
    let next : suc (suc j) ≡ suc j + 1 = omega arith in
    let u = flat n (product n (constant n (pos (suc j))) c) in
    ap (slopes n) (raised-append (suc j * g) (flat n c) (raised g (flats n cs)) ∙ ap (λ l. raised (suc j * g) (flat n c) ++ l) (raised-raised (suc j * g) g (flats n cs) ∙ ap (λ i. raised i (flats n cs)) e))
    ∙ slopes-append n (raised (suc j * g) (flat n c)) (raised (suc (suc j) * g) (flats n cs))
    ∙ ap₂ ◌++◌ (slopes-one n j 0 (flat n c) (flat_rising (suc b) n c l d.0) ∙ ap (raised (j * g)) (sym (flat-times b n j c l d.0)))
    (slopes_flats b n (suc j) cs l d.1 ∙ ap (λ i. raised i (flats n (scaled n (suc (suc j)) cs))) (sym f) ∙ sym (raised-raised (j * g) g (flats n (scaled n (suc (suc j)) cs))) ∙ ap (λ i. raised (j * g) (raised g (flats n (scaled n i cs)))) next)
    ∙ sym (raised-append (j * g) u (raised g (flats n (scaled n (suc j + 1) cs))))

pub flat_derivative : (b n : ℕ) (p : Poly) → suc b ≤ 32 → Canon (suc b) (suc n) p → flat (suc n) (derivative n p) ≡ derivative_terms n (flat (suc n) p)
unfolding Canon
flat_derivative b n p l d = flat_trimmed n (scaled n 1 (without_first (coefs p))) ∙ go (coefs p) d.3 ∙ ap (derivative_terms n) (sym (flat-coefs n p))
  where
    go : (cs : List Poly) → AllOf (Canon (suc b) n) cs → flats n (scaled n 1 (without_first cs)) ≡ derivative_terms n (flats n cs)
    go [] d = unfold flats scaled count_below slopes in refl
    go (c ∷ cs) d =
        let g = 32 ^ n in
        let e : 1 * g ≡ g = omega arith in
        sym (ap (slopes n) (other_flats (suc b) n c cs l d ∙ ap (λ i. raised i (flats n cs)) (sym e)) ∙ slopes_flats b n 0 cs l (unfold AllOf in d.1)
        ∙ raised_zero n (flats n (scaled n 1 cs)))
