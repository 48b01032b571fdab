-- Monomials and their negatives, and when two lists are the same. Assumes nothing.
use Rattle.std.proofs.Common.{◌≡◌, ℕ, zero, suc, ◌<◌, Bool, true, false, not, ◌&&◌, T, eqb, List, [], ◌∷◌, length, ℤ, ◌+ℤ◌, neg_ℤ, int_eq, sym, refl, ap, ◌∙◌, subst, ap₂, le_of_suc-le-suc, arith}
use lib.IntN.{+ℤ_invr}
use Rattle.std.proofs.Math.IntN.{neg_ℤ-neg_ℤ}
use Rattle.std.proofs.lemmas.Bool.Decides.{same_from_decides, Decides-int_eq}
use Rattle.poly.specs.Poly.{is_zero_number}
use Rattle.terms.specs.Monomial.{Monomial, monomial}
use Rattle.terms.specs.Operations.{neg_terms, same_terms}
use Rattle.terms.specs.Sizes.{KeysBelow, SizesAtMost}
use Rattle.terms.proofs.Bounds.{size_neg}
use Rattle.terms.proofs.Variables.{zero_difference}
use Rattle.packed.specs.declared.term.Term.{Term}
use Rattle.packed.specs.Terms.{term_at, monomial_in}
use Rattle.packed.specs.Signed.{signed, signed_number, same_monomial}

negated_at : (ts : List Monomial) (i : ℕ) → i < length ts → term_at (neg_terms ts) i ≡ monomial (term_at ts i).key (neg_ℤ (term_at ts i).times)
unfolding neg_terms
negated_at [] i h = absurd (omega arith)
negated_at (m ∷ ms) zero h = refl
negated_at (m ∷ ms) (suc i) h = negated_at ms i (le_of_suc-le-suc h)

pub signed_at : (b : Bool) (ts : List Monomial) (i : ℕ) → i < length ts → term_at (signed b ts) i ≡ monomial (term_at ts i).key (signed_number b (term_at ts i).times)
signed_at true ts i h = negated_at ts i h
signed_at false ts i h = refl

length-negated : (ts : List Monomial) → length (neg_terms ts) ≡ length ts
unfolding neg_terms
length-negated [] = refl
length-negated (m ∷ ms) = ap suc (length-negated ms)

pub length-signed : (b : Bool) (ts : List Monomial) → length (signed b ts) ≡ length ts
length-signed true ts = length-negated ts
length-signed false ts = refl

negated-twice : (ts : List Monomial) → neg_terms (neg_terms ts) ≡ ts
unfolding neg_terms
negated-twice [] = refl
negated-twice (m ∷ ms) = ap₂ (λ x w. monomial m.key x ∷ w) (neg_ℤ-neg_ℤ m.times) (negated-twice ms)

pub signed-other : (b : Bool) (ts : List Monomial) → signed (not b) ts ≡ neg_terms (signed b ts)
signed-other true ts = sym (negated-twice ts)
signed-other false ts = refl

keys-negated : (hi : ℕ) (ts : List Monomial) → KeysBelow hi ts → KeysBelow hi (neg_terms ts)
unfolding neg_terms KeysBelow
keys-negated hi [] k = tt
keys-negated hi (m ∷ ms) k = (k.0, keys-negated hi ms k.1)

pub signed-keys : (b : Bool) (hi : ℕ) (ts : List Monomial) → KeysBelow hi ts → KeysBelow hi (signed b ts)
signed-keys true hi ts k = keys-negated hi ts k
signed-keys false hi ts k = k

sizes-negated : (b : ℕ) (ts : List Monomial) → SizesAtMost b ts → SizesAtMost b (neg_terms ts)
unfolding neg_terms SizesAtMost
sizes-negated b [] k = tt
sizes-negated b (m ∷ ms) k = let h = k.0 in (omega (arith, size_neg m.times), sizes-negated b ms k.1)

pub signed-sizes : (b : Bool) (most : ℕ) (ts : List Monomial) → SizesAtMost most ts → SizesAtMost most (signed b ts)
signed-sizes true most ts k = sizes-negated most ts k
signed-sizes false most ts k = k

-- lists of different lengths are not the same
pub other_length : (p q : List Monomial) → (length p ≡ length q → ⊥) → same_terms p q ≡ false
unfolding same_terms
other_length [] [] h = absurd (h refl)
other_length [] (b ∷ q) h = refl
other_length (a ∷ p) [] h = refl
other_length (a ∷ p) (b ∷ q) h = ap (λ t. same_monomial a b && t) (other_length p q (λ e. h (ap suc e))) ∙ none (same_monomial a b)
  where
    none : (t : Bool) → t && false ≡ false
    none true = refl
    none false = refl

pub same_cons : (a b : Monomial) (p q : List Monomial) → same_terms (a ∷ p) (b ∷ q) ≡ same_monomial a b && same_terms p q
unfolding same_terms
same_cons a b p q = refl

-- what two terms say of their monomials
pub terms_test : (a b : Term) → eqb a.key b.key && int_eq a.coefficient b.coefficient ≡ same_monomial (monomial_in a) (monomial_in b)
terms_test a b = ap (λ t. eqb a.key b.key && t) (number_test a.coefficient b.coefficient)
  where
    number_test : (x y : ℤ) → int_eq x y ≡ is_zero_number (x +ℤ neg_ℤ y)
    number_test x y =
        same_from_decides (int_eq x y) (is_zero_number (x +ℤ neg_ℤ y)) (Decides-int_eq x y)
        (λ t. zero_difference x y (subst T (sym t) tt), λ e. subst (λ z. is_zero_number (x +ℤ neg_ℤ z) ≡ true) e (ap is_zero_number (+ℤ_invr x)))

pub same_none : same_terms [] [] ≡ true
unfolding same_terms
same_none = refl
