-- Monomials that an iterator gives, one after the other. Assumes nothing.
use Rattle.std.proofs.Common.{◌≡◌, ℕ, suc, ◌<◌, ◌≤◌, List, [], ◌∷◌, ◌++◌, length, sym, ap, ◌∙◌, subst, append_assoc, arith, length-append}
use Rattle.poly.specs.Modest.{magnitude}
use Rattle.terms.specs.Monomial.{Monomial, Rising}
use Rattle.terms.proofs.Rises.{rising_wider}
use Rattle.terms.specs.Sizes.{KeysBelow, SizesAtMost}

-- the next one goes from those that are left to those that were taken
pub moved : (taken taken' left left' : List Monomial) (m : Monomial) → left ≡ m ∷ left' → taken' ≡ taken ++ m ∷ [] → taken' ++ left' ≡ taken ++ left
moved taken taken' left left' m e f = ap (λ w. w ++ left') f ∙ append_assoc taken (m ∷ []) left' ∙ ap (λ w. taken ++ w) (sym e)

-- so fewer were taken than there are
pub fewer-taken : (taken left left' all : List Monomial) (m : Monomial) → left ≡ m ∷ left' → taken ++ left ≡ all → length taken < length all
fewer-taken taken left left' all m e f = omega (arith, ap length e, ap length f, length-append taken left)

-- bounds of the next one and of the others
pub keys-next : (hi : ℕ) (left left' : List Monomial) (m : Monomial) → left ≡ m ∷ left' → KeysBelow hi left → (m.key < hi) × KeysBelow hi left'
unfolding KeysBelow
keys-next hi left left' m e k = subst (KeysBelow hi) e k

pub sizes-next : (b : ℕ) (left left' : List Monomial) (m : Monomial) → left ≡ m ∷ left' → SizesAtMost b left → (magnitude m.times ≤ b) × SizesAtMost b left'
unfolding SizesAtMost
sizes-next b left left' m e k = subst (SizesAtMost b) e k

pub rising-next : (lo hi : ℕ) (left left' : List Monomial) (m : Monomial) → left ≡ m ∷ left' → Rising lo hi left → (lo ≤ m.key) × (m.key < hi) × Rising lo hi left'
unfolding Rising
rising-next lo hi left left' m e r =
    let s = subst (Rising lo hi) e r in
    let l = s.0 in (l, s.1, rising_wider (suc m.key) hi lo hi left' (omega arith) (omega arith) s.3)

-- bounds of the last ones
pub keys-after : (hi : ℕ) (before ts : List Monomial) → KeysBelow hi (before ++ ts) → KeysBelow hi ts
unfolding KeysBelow
keys-after hi [] ts k = k
keys-after hi (m ∷ ms) ts k = keys-after hi ms ts k.1

pub sizes-after : (b : ℕ) (before ts : List Monomial) → SizesAtMost b (before ++ ts) → SizesAtMost b ts
unfolding SizesAtMost
sizes-after b [] ts k = k
sizes-after b (m ∷ ms) ts k = sizes-after b ms ts k.1
