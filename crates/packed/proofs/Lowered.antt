-- Lists whose keys are lowered by one number. Assumes nothing.
use Rattle.std.proofs.Common.{◌≡◌, ℕ, zero, suc, ◌+◌, ◌-◌, ◌^◌, ◌<◌, ◌≤◌, List, [], ◌∷◌, length, drop, ℤ, pos, sym, refl, ap, ◌∙◌, ap₂, le_of_suc-le-suc, arith, length-drop}
use Rattle.std.proofs.lemmas.List.{get_or-drop}
use Rattle.terms.specs.Monomial.{Monomial, monomial}
use Rattle.terms.specs.LeadingTerms.{lowered}
use Rattle.terms.specs.Monomial.{Rising}
use Rattle.terms.specs.Sizes.{KeysBelow, SizesAtMost}
use Rattle.packed.specs.declared.view.View.{View}
use Rattle.packed.proofs.Places.{length-monomials, rising-keys}
use Rattle.packed.proofs.StoredTest.{test-stored}
use Rattle.packed.specs.declared.stretch.Stretch.{Stretch}
use Rattle.packed.specs.declared.term.Term.{Term}
use Rattle.packed.specs.Terms.{terms_in, term_at, monomial_in}
use Rattle.packed.specs.StretchTerms.{stretch_terms}
use Rattle.packed.specs.Signed.{signed_number}
use Rattle.packed.proofs.Signed.{signed_at, length-signed, signed-keys, signed-sizes}

pub length-lowered : (d : ℕ) (ts : List Monomial) → length (lowered d ts) ≡ length ts
unfolding lowered
length-lowered d [] = refl
length-lowered d (m ∷ ms) = ap suc (length-lowered d ms)

pub lowered_at : (d : ℕ) (ts : List Monomial) (i : ℕ) → i < length ts → term_at (lowered d ts) i ≡ monomial ((term_at ts i).key - d) (term_at ts i).times
unfolding lowered
lowered_at d [] i h = absurd (omega arith)
lowered_at d (m ∷ ms) zero h = refl
lowered_at d (m ∷ ms) (suc i) h = lowered_at d ms i (le_of_suc-le-suc h)

pub lowered_none : (ts : List Monomial) → lowered 0 ts ≡ ts
unfolding lowered
lowered_none [] = refl
lowered_none (m ∷ ms) = let e : m.key - 0 ≡ m.key = omega arith in ap₂ (λ k w. monomial k m.times ∷ w) e (lowered_none ms)

pub view-short : (v : View) → length (terms_in v) ≤ 64
view-short v = let s = test-stored v.cells.now v.stored in omega (arith, length-monomials v.cells.now, s.short)

pub view-keys : (v : View) → KeysBelow (2 ^ 19) (terms_in v)
view-keys v = rising-keys 0 (2 ^ 19) (terms_in v) (test-stored v.cells.now v.stored).rising

pub view-rising : (v : View) → Rising 0 (2 ^ 19) (terms_in v)
view-rising v = (test-stored v.cells.now v.stored).rising

pub view-sizes : (v : View) → SizesAtMost (2 ^ 27 - 1) (terms_in v)
view-sizes v = (test-stored v.cells.now v.stored).sizes

pub stretch_length : (s : Stretch) → length (stretch_terms s) ≡ length (terms_in s.view) - s.from
stretch_length s =
    length-signed s.negative (lowered s.down (drop s.from (terms_in s.view))) ∙ length-lowered s.down (drop s.from (terms_in s.view)) ∙ length-drop s.from (terms_in s.view)

pub stretch_at : (s : Stretch) (i : ℕ) → i < length (stretch_terms s) →
    term_at (stretch_terms s) i ≡ monomial ((term_at (terms_in s.view) (s.from + i)).key - s.down) (signed_number s.negative (term_at (terms_in s.view) (s.from + i)).times)
stretch_at s i h =
    let ts = drop s.from (terms_in s.view) in
    let low : i < length (lowered s.down ts) = omega (arith, length-signed s.negative (lowered s.down ts)) in
    signed_at s.negative (lowered s.down ts) i low ∙
    ap (λ m. monomial m.key (signed_number s.negative m.times))
    (lowered_at s.down ts i (omega (arith, length-lowered s.down ts)) ∙ ap (λ m. monomial (m.key - s.down) m.times) (get_or-drop s.from (terms_in s.view) i (monomial 0 (pos 0))))

-- a monomial of the view, its key lowered and its coefficient with the sign
pub stretch_term : (s : Stretch) (i : ℕ) (m : Term) (y : ℤ) → i < length (stretch_terms s) → monomial_in m ≡ term_at (terms_in s.view) (s.from + i) → y ≡ signed_number s.negative m.coefficient →
    monomial (m.key - s.down) y ≡ term_at (stretch_terms s) i
stretch_term s i m y h e f =
    ap₂ monomial (ap (λ k. k.key - s.down) e) (f ∙ ap (λ k. signed_number s.negative k.times) e) ∙ sym (stretch_at s i h)

lowered-keys : (hi d : ℕ) (ts : List Monomial) → KeysBelow hi ts → KeysBelow hi (lowered d ts)
unfolding lowered KeysBelow
lowered-keys hi d [] k = tt
lowered-keys hi d (m ∷ ms) k = let h = k.0 in (omega arith, lowered-keys hi d ms k.1)

lowered-sizes : (b d : ℕ) (ts : List Monomial) → SizesAtMost b ts → SizesAtMost b (lowered d ts)
unfolding lowered SizesAtMost
lowered-sizes b d [] k = tt
lowered-sizes b d (m ∷ ms) k = (k.0, lowered-sizes b d ms k.1)

pub drop-keys : (hi i : ℕ) (ts : List Monomial) → KeysBelow hi ts → KeysBelow hi (drop i ts)
unfolding KeysBelow
drop-keys hi zero ts k = k
drop-keys hi (suc i) [] k = tt
drop-keys hi (suc i) (m ∷ ms) k = drop-keys hi i ms k.1

pub drop-sizes : (b i : ℕ) (ts : List Monomial) → SizesAtMost b ts → SizesAtMost b (drop i ts)
unfolding SizesAtMost
drop-sizes b zero ts k = k
drop-sizes b (suc i) [] k = tt
drop-sizes b (suc i) (m ∷ ms) k = drop-sizes b i ms k.1

pub stretch_short : (s : Stretch) → length (stretch_terms s) ≤ 64
stretch_short s = omega (arith, stretch_length s, view-short s.view)

pub stretch_keys : (s : Stretch) → KeysBelow (2 ^ 19) (stretch_terms s)
stretch_keys s =
    signed-keys s.negative (2 ^ 19) (lowered s.down (drop s.from (terms_in s.view)))
    (lowered-keys (2 ^ 19) s.down (drop s.from (terms_in s.view)) (drop-keys (2 ^ 19) s.from (terms_in s.view) (view-keys s.view)))

pub stretch_sizes : (s : Stretch) → SizesAtMost (2 ^ 27 - 1) (stretch_terms s)
stretch_sizes s =
    signed-sizes s.negative (2 ^ 27 - 1) (lowered s.down (drop s.from (terms_in s.view)))
    (lowered-sizes (2 ^ 27 - 1) s.down (drop s.from (terms_in s.view)) (drop-sizes (2 ^ 27 - 1) s.from (terms_in s.view) (view-sizes s.view)))
