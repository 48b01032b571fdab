-- The monomial at a place of a list. Assumes nothing.
use Rattle.std.proofs.Common.{◌≡◌, ℕ, zero, suc, ◌^◌, ◌<◌, ◌≤◌, List, [], ◌∷◌, length, get_or, ℤ, pos, negsuc, refl, ap, le_of_suc-le-suc, arith, w64, to_z, of_z}
use lib.Signed.{mag}
use Rattle.std.proofs.lemmas.Int.{to_z-of_z}
use Rattle.poly.specs.Modest.{magnitude}
use Rattle.terms.specs.Monomial.{Monomial, Rising}
use Rattle.terms.specs.Sizes.{KeysBelow, SizesAtMost}
use Rattle.terms.specs.Cells.{monomial_of, monomials_of}
use Rattle.packed.specs.Terms.{term_at}

pub length-monomials : (zs : List ℤ) → length (monomials_of zs) ≡ length zs
unfolding monomials_of
length-monomials [] = refl
length-monomials (z ∷ zs) = ap suc (length-monomials zs)

pub monomial_at : (zs : List ℤ) (i : ℕ) → i < length zs → term_at (monomials_of zs) i ≡ monomial_of (get_or zs i (pos 0))
unfolding monomials_of
monomial_at [] i h = absurd (omega arith)
monomial_at (z ∷ zs) zero h = refl
monomial_at (z ∷ zs) (suc i) h = monomial_at zs i (le_of_suc-le-suc h)

pub key_at : (hi : ℕ) (ts : List Monomial) (i : ℕ) → KeysBelow hi ts → i < length ts → (term_at ts i).key < hi
unfolding KeysBelow
key_at hi [] i k h = absurd (omega arith)
key_at hi (t ∷ ts) zero k h = k.0
key_at hi (t ∷ ts) (suc i) k h = key_at hi ts i k.1 (le_of_suc-le-suc h)

pub size_at : (b : ℕ) (ts : List Monomial) (i : ℕ) → SizesAtMost b ts → i < length ts → magnitude (term_at ts i).times ≤ b
unfolding SizesAtMost
size_at b [] i k h = absurd (omega arith)
size_at b (t ∷ ts) zero k h = k.0
size_at b (t ∷ ts) (suc i) k h = size_at b ts i k.1 (le_of_suc-le-suc h)

pub rising-keys : (lo hi : ℕ) (ts : List Monomial) → Rising lo hi ts → KeysBelow hi ts
unfolding Rising KeysBelow
rising-keys lo hi [] r = tt
rising-keys lo hi (t ∷ ts) r = (r.1, rising-keys (suc t.key) hi ts r.3)

-- a number from its bits
pub from_bits : (z : ℤ) → mag z < 2 ^ 63 → to_z w64 (of_z w64 z) ≡ z
from_bits z h = to_z-of_z w64 z (record { sfits = h })

pub mag_small : (z : ℤ) → magnitude z < 2 ^ 63 → mag z < 2 ^ 63
mag_small (pos n) h = h
mag_small (negsuc n) h = omega arith
