-- The monomials of a polynomial: they rise, and they determine it. Assumes nothing.
use Rattle.std.proofs.Common.{◌≡◌, ℕ, zero, suc, ◌+◌, ◌*◌, ◌^◌, ◌≤◌, true, false, T, List, [], ◌∷◌, ◌++◌, length, take, drop, ℤ, pos, sym, refl, ap, ◌∙◌, subst, ap₂, mul-le-mul_right, suc-mul, arith, T_not}
use native.Mathlib.Nat.{pow-succ'}
use Rattle.poly.specs.Poly.{Poly, Number, End, Coef, from_coefs, coefs, the_number, is_zero_number, is_zero, all_zero, zero_poly, trim}
use Rattle.poly.proofs.Depth.{Depth-number}
use Rattle.terms.specs.Monomial.{Monomial, monomial, raised, constant_terms, flat, Rising}
use Rattle.terms.specs.Operations.{is_zero_terms, number_terms}
use Rattle.terms.specs.LeadingTerms.{count_below, lowered}
use Rattle.terms.specs.Canon.{Trimmed, AllOf, Canon}
use Rattle.terms.proofs.Tests.{on_test, T-same, T-both, both_T}
use Rattle.terms.proofs.Integers.{NotZero, is_zero_lem}
use Rattle.terms.proofs.Rises.{rising_wider, rising-raised, rising-append}
use Rattle.terms.proofs.Split.{below_split, from_split, lowered-raised}
use Rattle.terms.proofs.Canons.{all-imply, trim_cases}

-- the monomials of a list of coefficients
unfoldable pub flats : ℕ → List Poly → List Monomial
flats n [] = []
flats n (c ∷ cs) = flat n c ++ raised (32 ^ n) (flats n cs)

pub flat-coefs : (n : ℕ) (p : Poly) → flat (suc n) p ≡ flats n (coefs p)
unfolding flat flats coefs
flat-coefs n (Number z) = refl
flat-coefs n End = refl
flat-coefs n (Coef c r) = ap (λ ts. flat n c ++ raised (32 ^ n) ts) (flat-coefs n r)

pub flat-from_coefs : (n : ℕ) (cs : List Poly) → flat (suc n) (from_coefs cs) ≡ flats n cs
unfolding flat flats from_coefs
flat-from_coefs n [] = refl
flat-from_coefs n (c ∷ cs) = ap (λ ts. flat n c ++ raised (32 ^ n) ts) (flat-from_coefs n cs)

-- the two cases of a number
pub constant_cases : (z : ℤ) (P : List Monomial → Type 0) → (z ≡ pos 0 → P []) → (NotZero z → P (monomial 0 z ∷ [])) → P (constant_terms z)
unfolding constant_terms
constant_cases z P h k = on_test (is_zero_number z) (λ b. P (elim b as (λ _. List Monomial) [ true ↦ [] | false ↦ monomial 0 z ∷ [] ])) (λ t. h (is_zero_lem z t)) k

pub flat_zero : (n : ℕ) (c : Poly) → T (is_zero c) → flat n c ≡ []
unfolding flat
flat_zero zero (Number z) t = unfold constant_terms in ap constant_terms (is_zero_lem z t)
flat_zero zero End t = unfold constant_terms in refl
flat_zero zero (Coef c r) t = absurd t
flat_zero (suc n) (Number z) t = refl
flat_zero (suc n) End t = refl
flat_zero (suc n) (Coef c r) t = absurd t

pub zero_is : (n : ℕ) → T (is_zero (zero_poly n))
zero_is zero = tt
zero_is (suc n) = tt

pub flats_zero : (n : ℕ) (cs : List Poly) → T (all_zero cs) → flats n cs ≡ []
unfolding flats all_zero raised
flats_zero n [] t = refl
flats_zero n (c ∷ cs) t = let (tc, ts) = T-both (is_zero c) (all_zero cs) t in ap₂ (λ u v. u ++ raised (32 ^ n) v) (flat_zero n c tc) (flats_zero n cs ts)

pub flats_trim : (n : ℕ) (cs : List Poly) → flats n (trim cs) ≡ flats n cs
flats_trim n [] = unfold trim in refl
flats_trim n (c ∷ cs) =
    let ih = flats_trim n cs in
    trim_cases c cs (λ ds. flats n ds ≡ flats n (c ∷ cs)) (λ t. flats_zero n [] (unfold all_zero in tt) ∙ sym (flats_zero n (c ∷ cs) t)) (λ t. joined n c (trim cs) cs ih)
  where
    joined : (n : ℕ) (c : Poly) (ds cs : List Poly) → flats n ds ≡ flats n cs → flats n (c ∷ ds) ≡ flats n (c ∷ cs)
    joined n c ds cs e = unfold flats in ap (λ ts. flat n c ++ raised (32 ^ n) ts) e

pub flat_trimmed : (n : ℕ) (cs : List Poly) → flat (suc n) (from_coefs (trim cs)) ≡ flats n cs
flat_trimmed n cs = flat-from_coefs n (trim cs) ∙ flats_trim n cs

-- keys rise
block : (n i : ℕ) → 32 ^ n + i * 32 ^ n ≡ suc i * 32 ^ n
block n i = omega (arith, suc-mul i (32 ^ n))

pub rising-constant : (z : ℤ) → Rising 0 1 (constant_terms z)
rising-constant z = constant_cases z (Rising 0 1) (λ _. unfold Rising in tt) (λ h. unfold Rising in (omega arith, omega arith, h, tt))

pub rising_flats : (n : ℕ) (cs : List Poly) → AllOf (λ c. Rising 0 (32 ^ n) (flat n c)) cs → Rising 0 (length cs * 32 ^ n) (flats n cs)
unfolding AllOf flats
rising_flats n [] d = unfold Rising in tt
rising_flats n (c ∷ cs) d =
    let b = 32 ^ n in
    let ih = rising_flats n cs d.1 in
    rising-append 0 b (suc (length cs) * b) (flat n c) (raised b (flats n cs)) (omega arith) (omega (arith, block n (length cs))) d.0
    (rising_wider (b + 0) (b + length cs * b) b (suc (length cs) * b) (raised b (flats n cs)) (omega arith) (omega (arith, block n (length cs))) (rising-raised b 0 (length cs * b) (flats n cs) ih))

pub flat_rising : (b n : ℕ) (p : Poly) → b ≤ 32 → Canon b n p → Rising 0 (32 ^ n) (flat n p)
unfolding Canon
flat_rising b zero p l d = unfold flat in rising-constant (the_number p)
flat_rising b (suc n) p l d =
    let r = rising_flats n (coefs p) (all-imply (Canon b n) (λ c. Rising 0 (32 ^ n) (flat n c)) (λ c. flat_rising b n c l) (coefs p) d.3) in
    subst (Rising 0 (32 ^ suc n)) (sym (flat-coefs n p))
    (rising_wider 0 (length (coefs p) * 32 ^ n) 0 (32 ^ suc n) (flats n (coefs p)) (omega arith)
    (omega (arith, pow-succ' 32 n, mul-le-mul_right {m = length (coefs p)} {n = 32} (32 ^ n) (omega (arith, d.1)))) r)

-- only zero has no monomials
empty_left : (s t : List Monomial) → s ++ t ≡ [] → s ≡ []
empty_left [] t e = refl
empty_left (m ∷ s) t e = cc

empty_right : (s t : List Monomial) → s ++ t ≡ [] → t ≡ []
empty_right [] t e = e
empty_right (m ∷ s) t e = cc

empty_raised : (d : ℕ) (s : List Monomial) → raised d s ≡ [] → s ≡ []
unfolding raised
empty_raised d [] e = refl
empty_raised d (m ∷ s) e = cc

pub number-constant : (z : ℤ) → number_terms (constant_terms z) ≡ z
number-constant z = constant_cases z (λ ts. number_terms ts ≡ z) sym (λ _. refl)

zero_flats : (n : ℕ) (P : Poly → Type 0) → ((c : Poly) → P c → flat n c ≡ [] → T (is_zero c)) → (cs : List Poly) → AllOf P cs → flats n cs ≡ [] → T (all_zero cs)
unfolding AllOf flats all_zero
zero_flats n P h [] d e = tt
zero_flats n P h (c ∷ cs) d e =
    let b = 32 ^ n in
    both_T (is_zero c) (all_zero cs) (h c d.0 (empty_left (flat n c) (raised b (flats n cs)) e)) (zero_flats n P h cs d.1 (empty_raised b (flats n cs) (empty_right (flat n c) (raised b (flats n cs)) e)))

zero_coefs : (cs : List Poly) → Trimmed cs → T (all_zero cs) → T (is_zero (from_coefs cs))
unfolding Trimmed from_coefs
zero_coefs [] d t = tt
zero_coefs (c ∷ cs) d t = absurd (T_not (all_zero (c ∷ cs)) d.0 t)

pub zero_flat : (b n : ℕ) (p : Poly) → Canon b n p → flat n p ≡ [] → T (is_zero p)
unfolding Canon flat
zero_flat b zero p d e =
    let z : the_number p ≡ pos 0 = sym (number-constant (the_number p)) ∙ ap number_terms e in
    subst (λ q. T (is_zero q)) (ap Number (sym z) ∙ sym (Depth-number p d)) tt
zero_flat b (suc n) p d e =
    subst (λ q. T (is_zero q)) (sym d.0) (zero_coefs (coefs p) d.2 (zero_flats n (Canon b n) (zero_flat b n) (coefs p) d.3 (sym (flat-coefs n p) ∙ e)))

pub flat_is_zero : (b n : ℕ) (p : Poly) → Canon b n p → is_zero p ≡ is_zero_terms (flat n p)
flat_is_zero b n p d = T-same (is_zero p) (is_zero_terms (flat n p)) (λ t. subst (λ ts. T (is_zero_terms ts)) (sym (flat_zero n p t)) tt) (λ t. zero_flat b n p d (empty (flat n p) t))
  where
    empty : (ts : List Monomial) → T (is_zero_terms ts) → ts ≡ []
    empty [] t = refl
    empty (m ∷ ts) t = absurd t

pub flat_number : (p : Poly) → the_number p ≡ number_terms (flat 0 p)
unfolding flat
flat_number p = sym (number-constant (the_number p))

-- the monomials of the first coefficient, and those of the others
pub rising_list : (b n : ℕ) (cs : List Poly) → b ≤ 32 → AllOf (Canon b n) cs → Rising 0 (length cs * 32 ^ n) (flats n cs)
rising_list b n cs l d = rising_flats n cs (all-imply (Canon b n) (λ c. Rising 0 (32 ^ n) (flat n c)) (λ c. flat_rising b n c l) cs d)

pub rising-others : (b n : ℕ) (cs : List Poly) → b ≤ 32 → AllOf (Canon b n) cs → Rising (32 ^ n) (32 ^ n + length cs * 32 ^ n) (raised (32 ^ n) (flats n cs))
rising-others b n cs l d =
    let g = 32 ^ n in
    rising_wider (g + 0) (g + length cs * g) g (g + length cs * g) (raised g (flats n cs)) (omega arith) (omega arith) (rising-raised g 0 (length cs * g) (flats n cs) (rising_list b n cs l d))

pub first_flats : (b n : ℕ) (c : Poly) (cs : List Poly) → b ≤ 32 → AllOf (Canon b n) (c ∷ cs) → take (count_below (32 ^ n) (flats n (c ∷ cs))) (flats n (c ∷ cs)) ≡ flat n c
unfolding AllOf flats
first_flats b n c cs l d = below_split 0 (32 ^ n) (32 ^ n + length cs * 32 ^ n) (flat n c) (raised (32 ^ n) (flats n cs)) (flat_rising b n c l d.0) (rising-others b n cs l d.1)

pub other_flats : (b n : ℕ) (c : Poly) (cs : List Poly) → b ≤ 32 → AllOf (Canon b n) (c ∷ cs) → drop (count_below (32 ^ n) (flats n (c ∷ cs))) (flats n (c ∷ cs)) ≡ raised (32 ^ n) (flats n cs)
unfolding AllOf flats
other_flats b n c cs l d = from_split 0 (32 ^ n) (32 ^ n + length cs * 32 ^ n) (flat n c) (raised (32 ^ n) (flats n cs)) (flat_rising b n c l d.0) (rising-others b n cs l d.1)

-- the monomials determine the polynomial
flats_unique : (b n : ℕ) → b ≤ 32 → ((p q : Poly) → Canon b n p → Canon b n q → flat n p ≡ flat n q → p ≡ q) → (cs ds : List Poly) →
    AllOf (Canon b n) cs → AllOf (Canon b n) ds → Trimmed cs → Trimmed ds → flats n cs ≡ flats n ds → cs ≡ ds
unfolding AllOf Trimmed
flats_unique b n l h [] [] d k t s e = refl
flats_unique b n l h [] (y ∷ ds) d k t s e = absurd (T_not (all_zero (y ∷ ds)) s.0 (zero_flats n (Canon b n) (zero_flat b n) (y ∷ ds) k (sym e ∙ flats_zero n [] (unfold all_zero in tt))))
flats_unique b n l h (x ∷ cs) [] d k t s e = absurd (T_not (all_zero (x ∷ cs)) t.0 (zero_flats n (Canon b n) (zero_flat b n) (x ∷ cs) d (e ∙ flats_zero n [] (unfold all_zero in tt))))
flats_unique b n l h (x ∷ cs) (y ∷ ds) d k t s e =
    let g = 32 ^ n in
    let heads : flat n x ≡ flat n y = sym (first_flats b n x cs l d) ∙ ap (λ ts. take (count_below g ts) ts) e ∙ first_flats b n y ds l k in
    let rests : flats n cs ≡ flats n ds =
    sym (lowered-raised g (flats n cs)) ∙ ap (lowered g) (sym (other_flats b n x cs l d) ∙ ap (λ ts. drop (count_below g ts) ts) e ∙ other_flats b n y ds l k) ∙ lowered-raised g (flats n ds) in
    ap₂ ◌∷◌ (h x y d.0 k.0 heads) (flats_unique b n l h cs ds d.1 k.1 t.1 s.1 rests)

pub flat_unique : (b n : ℕ) (p q : Poly) → b ≤ 32 → Canon b n p → Canon b n q → flat n p ≡ flat n q → p ≡ q
unfolding Canon
flat_unique b zero p q l d k e = Depth-number p d ∙ ap Number (flat_number p ∙ ap number_terms e ∙ sym (flat_number q)) ∙ sym (Depth-number q k)
flat_unique b (suc n) p q l d k e =
    d.0 ∙ ap from_coefs (flats_unique b n l (λ x y. flat_unique b n x y l) (coefs p) (coefs q) d.3 k.3 d.2 k.2 (sym (flat-coefs n p) ∙ e ∙ flat-coefs n q)) ∙ sym k.0
