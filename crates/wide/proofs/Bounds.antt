-- The sum of two lists fits where their coefficients do. Assumes nothing.
use Rattle.std.proofs.Common.{◌≡◌, ℕ, zero, suc, ◌+◌, ◌^◌, ◌<◌, true, false, List, [], ◌∷◌, length, ℤ, pos, negsuc, ◌+ℤ◌, ◌*ℤ◌, sym, refl, ap, ◌∙◌, subst, ap₂, le_of_suc-le-suc, arith, w64, SFits, to_z, of_z, eq-eqb, ne_eqb}
use lib.Signed.{mag}
use Rattle.poly.specs.Poly.{is_zero_number}
use Rattle.poly.specs.Modest.{magnitude}
use Rattle.terms.specs.Monomial.{Monomial, monomial}
use Rattle.terms.specs.Operations.{scale_terms}
use Rattle.terms.proofs.Bounds.{length_scaled, size_sum}
use Rattle.packed.specs.declared.term.Term.{Term}
use Rattle.packed.specs.declared.view.View.{View}
use Rattle.packed.specs.Terms.{terms_in, term_at, monomial_in}
use Rattle.packed.proofs.Places.{key_at, size_at, from_bits, mag_small}
use Rattle.wide.specs.Merging.{Addable, scaled_by}

pub scaled_at : (d : ℕ) (x : ℤ) (ts : List Monomial) (i : ℕ) → i < length ts → term_at (scale_terms d x ts) i ≡ monomial (d + (term_at ts i).key) (x *ℤ (term_at ts i).times)
unfolding scale_terms
scaled_at d x [] i h = absurd (omega arith)
scaled_at d x (m ∷ ms) zero h = refl
scaled_at d x (m ∷ ms) (suc i) h = scaled_at d x ms i (le_of_suc-le-suc h)

-- the product of two terms
pub scaled_term : (by : Term) (polynomial : View) (i : ℕ) (term product : Term) → i < length (scaled_by by polynomial) → monomial_in term ≡ term_at (terms_in polynomial) i →
    monomial_in product ≡ monomial (by.key + term.key) (by.coefficient *ℤ term.coefficient) → monomial_in product ≡ term_at (scaled_by by polynomial) i
scaled_term by polynomial i term product h e f =
    f ∙ ap₂ monomial (ap (λ m. by.key + m.key) e) (ap (λ m. by.coefficient *ℤ m.times) e) ∙ sym (scaled_at by.key by.coefficient (terms_in polynomial) i (omega (arith, length_scaled by.key by.coefficient (terms_in polynomial))))

-- a number from its bits
pub from_size : (z : ℤ) → magnitude z < 2 ^ 63 → to_z w64 (of_z w64 z) ≡ z
from_size z h = from_bits z (mag_small z h)

pub size_fits : (z : ℤ) → magnitude z < 2 ^ 63 → SFits w64 z
size_fits z h = record { sfits = mag_small z h }

pub zero_bits : (z : ℤ) → mag z < 2 ^ 63 → of_z w64 z ≡ 0 → is_zero_number z ≡ true
zero_bits (pos n) h e = eq-eqb n 0 e
zero_bits (negsuc n) h e = absurd (omega arith)

pub other_bits : (z : ℤ) → (of_z w64 z ≡ 0 → ⊥) → is_zero_number z ≡ false
other_bits (pos n) h = ne_eqb n 0 h
other_bits (negsuc n) h = refl

-- one product of a monomial with one of a list
pub record Product (d : ℕ) (x : ℤ) (ts : List Monomial) (i : ℕ) : Type 0 where
  pub inside : i < length ts
  pub key : d + (term_at ts i).key < 2 ^ 63
  pub size : magnitude (x *ℤ (term_at ts i).times) < 2 ^ 63

pub product-fits : (d : ℕ) (x : ℤ) (ts right : List Monomial) (i : ℕ) → Addable (scale_terms d x ts) right → i < length (scale_terms d x ts) → Product d x ts i
product-fits d x ts right i a h =
    let inside : i < length ts = omega (arith, length_scaled d x ts) in
    let e = scaled_at d x ts i inside in
    let Key : Monomial → Type 0 = λ m. m.key < 2 ^ 63 in
    let Size : Monomial → Type 0 = λ m. magnitude m.times < 2 ^ 63 in
    record {
      inside = inside;
      key = subst Key e (key_at (2 ^ 63) (scale_terms d x ts) i a.keys_left h);
      size = subst Size e (omega (arith, size_at a.most_left (scale_terms d x ts) i a.sizes_left h, a.fit));
    }

-- the monomials at two places
pub record Pair (left right : List Monomial) (i j : ℕ) : Type 0 where
  pub left_key : (term_at left i).key < 2 ^ 63
  pub right_key : (term_at right j).key < 2 ^ 63
  pub size : magnitude ((term_at left i).times +ℤ (term_at right j).times) < 2 ^ 63

pub pair_fits : (left right : List Monomial) (i j : ℕ) → Addable left right → i < length left → j < length right → Pair left right i j
pair_fits left right i j a h g =
    record {
      left_key = key_at (2 ^ 63) left i a.keys_left h;
      right_key = key_at (2 ^ 63) right j a.keys_right g;
      size =
          omega (arith, size_sum (term_at left i).times (term_at right j).times, size_at a.most_left left i a.sizes_left h, size_at a.most_right right j a.sizes_right g, a.fit);
    }
