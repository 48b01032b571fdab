-- The polynomial that is spelt from its own monomials is itself, and the first monomials of a polynomial are those of another. Assumes nothing.
use Rattle.std.proofs.Common.{◌≡◌, ℕ, zero, suc, ◌+◌, ◌-◌, ◌^◌, ◌≤◌, T, List, [], ◌∷◌, ◌++◌, length, take, drop, pos, sym, refl, ap, ◌∙◌, subst, ap₂, arith}
use Rattle.std.proofs.Math.Seq.{take-nil}
use Rattle.poly.specs.Poly.{Poly, Number, End, Coef, from_coefs, coefs, is_zero, the_number, trim}
use Rattle.poly.specs.Value.{Depth}
use Rattle.terms.specs.Monomial.{Monomial, monomial, flat, raised, constant_terms}
use Rattle.terms.specs.LeadingTerms.{count_below, lowered}
use Rattle.terms.specs.Canon.{Trimmed, AllOf, Canon}
use Rattle.terms.proofs.Flat.{flats, flat-coefs, flat-from_coefs, flat_trimmed, zero_flat, flat_number, first_flats, other_flats, constant_cases}
use Rattle.terms.proofs.Split.{lowered-raised}
use Rattle.terms.proofs.Canons.{canon_trimmed, trimmed_is}
use Rattle.stacks.specs.Spelt.{spelt_coefs, spelt}

spelt_cons : (coef : List Monomial → Poly) (d k : ℕ) (ts : List Monomial) → (ts ≡ [] → ⊥) →
    spelt_coefs coef d (suc k) ts ≡ coef (take (count_below d ts) ts) ∷ spelt_coefs coef d k (lowered d (drop (count_below d ts) ts))
unfolding spelt_coefs
spelt_cons coef d k [] h = absurd (h refl)
spelt_cons coef d k (m ∷ ms) h = refl

flats_nil : (n : ℕ) → flats n [] ≡ []
unfolding flats
flats_nil n = refl

spelt_nil : (coef : List Monomial → Poly) (d k : ℕ) → spelt_coefs coef d k [] ≡ []
unfolding spelt_coefs
spelt_nil coef d zero = refl
spelt_nil coef d (suc k) = refl

-- a trimmed list that isn't empty has monomials
not_none : (n : ℕ) (c : Poly) (cs : List Poly) → length (c ∷ cs) ≤ 9 → Trimmed (c ∷ cs) → AllOf (Canon 9 n) (c ∷ cs) → flats n (c ∷ cs) ≡ [] → ⊥
unfolding from_coefs
not_none n c cs l t d e =
    let canon : Canon 9 (suc n) (from_coefs (c ∷ cs)) = subst (λ ds. Canon 9 (suc n) (from_coefs ds)) (trimmed_is (c ∷ cs) t) (canon_trimmed 9 n (c ∷ cs) l d) in
    let z = zero_flat 9 (suc n) (from_coefs (c ∷ cs)) canon (flat-from_coefs n (c ∷ cs) ∙ e) in
    clash c (from_coefs cs) z
  where
    clash : (c r : Poly) → T (is_zero (Coef c r)) → ⊥
    clash c r t = t

spelt_list : (n k : ℕ) (cs : List Poly) → ((c : Poly) → Canon 9 n c → spelt n (flat n c) ≡ c) → length cs ≤ k → length cs ≤ 9 → Trimmed cs → AllOf (Canon 9 n) cs →
    spelt_coefs (spelt n) (32 ^ n) k (flats n cs) ≡ cs
spelt_list n k [] ih l h t d = ap (spelt_coefs (spelt n) (32 ^ n) k) (flats_nil n) ∙ spelt_nil (spelt n) (32 ^ n) k
spelt_list n zero (c ∷ cs) ih l h t d = absurd (omega arith)
spelt_list n (suc k) (c ∷ cs) ih l h t d =
    let tt' : Trimmed cs = unfold Trimmed in t.1 in
    let dc : Canon 9 n c = unfold AllOf in d.0 in
    let ds : AllOf (Canon 9 n) cs = unfold AllOf in d.1 in
    let more = spelt_list n k cs ih (omega arith) (omega arith) tt' ds in
    spelt_cons (spelt n) (32 ^ n) k (flats n (c ∷ cs)) (not_none n c cs h t d) ∙
    ap₂ (λ u v. spelt n u ∷ spelt_coefs (spelt n) (32 ^ n) k (lowered (32 ^ n) v)) (first_flats 9 n c cs (omega arith) d) (other_flats 9 n c cs (omega arith) d) ∙
    ap₂ (λ u v. u ∷ spelt_coefs (spelt n) (32 ^ n) k v) (ih c dc) (lowered-raised (32 ^ n) (flats n cs)) ∙ ap (λ v. c ∷ v) more

number_is : (p : Poly) → Depth zero p → Number (the_number p) ≡ p
unfolding Depth
number_is (Number z) d = refl
number_is End d = absurd d
number_is (Coef c r) d = absurd d

from_coefs_lem : (n : ℕ) (ts : List Monomial) (p : Poly) → spelt_coefs (spelt n) (32 ^ n) 32 ts ≡ coefs p → p ≡ from_coefs (coefs p) → spelt (suc n) ts ≡ p
unfolding spelt
from_coefs_lem n ts p e d = ap from_coefs e ∙ sym d

pub spelt-flat : (n : ℕ) (p : Poly) → Canon 9 n p → spelt n (flat n p) ≡ p
unfolding Canon
spelt-flat zero p d = unfold spelt in ap Number (sym (flat_number p)) ∙ number_is p d
spelt-flat (suc n) p d =
    let ih = spelt-flat n in
    let e : spelt_coefs (spelt n) (32 ^ n) 32 (flat (suc n) p) ≡ coefs p =
    ap (spelt_coefs (spelt n) (32 ^ n) 32) (flat-coefs n p) ∙ spelt_list n 32 (coefs p) ih (omega (arith, d.1)) d.1 d.2 d.3 in
    from_coefs_lem n (flat (suc n) p) p e d.0

-- the first k monomials
take_both : (k : ℕ) (s t : List Monomial) → take k (s ++ t) ≡ take k s ++ take (k - length s) t
take_both k [] t = let e : k ≡ k - 0 = omega arith in ap (λ j. take j t) e ∙ ap (λ l. l ++ take (k - 0) t) (sym (take-nil k))
take_both zero (m ∷ s) t = let e : zero - length (m ∷ s) ≡ zero = omega arith in ap (λ j. take j t) (sym e)
take_both (suc k) (m ∷ s) t =
    let e : suc k - length (m ∷ s) ≡ k - length s = omega arith in
    ap (λ l. m ∷ l) (take_both k s t) ∙ ap (λ j. m ∷ (take k s ++ take j t)) (sym e)

take-raised : (d k : ℕ) (s : List Monomial) → take k (raised d s) ≡ raised d (take k s)
unfolding raised
take-raised d zero s = refl
take-raised d (suc k) [] = refl
take-raised d (suc k) (m ∷ s) = ap (λ l. monomial (d + m.key) m.times ∷ l) (take-raised d k s)

-- the first monomials of a polynomial are those of another
unfoldable pub Front : ℕ → Poly → ℕ → Type 0
Front n p k = (q : Poly) × Canon 9 n q × (take k (flat n p) ≡ flat n q)

unfoldable pub FrontList : ℕ → List Poly → ℕ → Type 0
FrontList n cs k = (ds : List Poly) × AllOf (Canon 9 n) ds × (length ds ≤ length cs) × (take k (flats n cs) ≡ flats n ds)

front_list : (n k : ℕ) (cs : List Poly) → ((c : Poly) (j : ℕ) → Canon 9 n c → Front n c j) → AllOf (Canon 9 n) cs → FrontList n cs k
unfolding FrontList Front AllOf flats
front_list n k [] ih d = ([], tt, omega arith, take-nil k)
front_list n k (c ∷ cs) ih d =
    let (q, cq, eq) = ih c k d.0 in
    let (ds, cd, l, ed) = front_list n (k - length (flat n c)) cs ih d.1 in (
      q ∷ ds,
      (cq, cd),
      omega arith,
      take_both k (flat n c) (raised (32 ^ n) (flats n cs)) ∙ ap₂ ◌++◌ eq (take-raised (32 ^ n) (k - length (flat n c)) (flats n cs) ∙ ap (raised (32 ^ n)) ed),
    )

front-number : (k : ℕ) (p : Poly) → Depth zero p → Front zero p k
unfolding Front Canon flat
front-number k p d = constant_cases (the_number p) (λ ts. ts ≡ constant_terms (the_number p) → (q : Poly) × Depth zero q × (take k ts ≡ constant_terms (the_number q)))
    (λ z e. (p, d, take-nil k ∙ e)) (λ z e. one k e) refl
  where
    none : [] ≡ constant_terms (pos 0)
    none = unfold constant_terms in refl

    one : (k : ℕ) → monomial 0 (the_number p) ∷ [] ≡ constant_terms (the_number p) → (q : Poly) × Depth zero q × (take k (monomial 0 (the_number p) ∷ []) ≡ constant_terms (the_number q))
    one zero e = (Number (pos 0), unfold Depth in tt, none)
    one (suc k) e = (p, d, ap (λ l. monomial 0 (the_number p) ∷ l) (take-nil k) ∙ e)

front_of_list : (n k : ℕ) (p : Poly) → length (coefs p) ≤ 9 → FrontList n (coefs p) k → Front (suc n) p k
unfolding FrontList Front
front_of_list n k p l h =
    let (ds, cd, m, e) = h in
    (from_coefs (trim ds), canon_trimmed 9 n ds (omega arith) cd, ap (take k) (flat-coefs n p) ∙ e ∙ sym (flat_trimmed n ds))

pub front-is-flat : (n k : ℕ) (p : Poly) → Canon 9 n p → Front n p k
unfolding Canon
front-is-flat zero k p d = front-number k p d
front-is-flat (suc n) k p d = let ih = front-is-flat n in front_of_list n k p d.1 (front_list n k (coefs p) (λ c j. ih j c) d.3)
