-- That every slot holds a polynomial has at most one proof, so a struct can keep it. Assumes nothing.
use Rattle.std.specs.Prelude.{◌≡◌, ℕ, zero, suc, List, [], ◌∷◌, ℤ}
use Rattle.std.specs.Coded.{×_prop, Unit-prop, le_prop, Coded, Coded-set, coded_ℕ, coded_ℤ, coded_list, coded×, code_by}
use Rattle.std.proofs.Common.{refl, ap}
use Rattle.std.proofs.Math.Dec.{T_prop}
use Rattle.std.proofs.Math.Decide.{map_dec}
use Rattle.std.proofs.Math.IntN.{ℤ_discrete}
use mathlib.Core.HLevel.{hedberg}
use Rattle.poly.specs.Poly.{Poly, Number, End, Coef, coefs}
use Rattle.poly.specs.Value.{Depth}
use Rattle.terms.specs.Monomial.{Monomial, monomial, Rising}
use Rattle.terms.specs.Sizes.{SizesAtMost}
use Rattle.terms.specs.Canon.{Trimmed, AllOf, Canon}
use Rattle.stacks.specs.Memories.{AllHold}

Rising-prop : (lo hi : ℕ) (ts : List Monomial) → IsProp (Rising lo hi ts)
unfolding Rising
Rising-prop lo hi [] = Unit-prop
Rising-prop lo hi (m ∷ ms) = hlevel (le_prop, T_prop, Rising-prop (suc m.key) hi ms)

SizesAtMost-prop : (b : ℕ) (ts : List Monomial) → IsProp (SizesAtMost b ts)
unfolding SizesAtMost
SizesAtMost-prop b [] = Unit-prop
SizesAtMost-prop b (m ∷ ms) = ×_prop le_prop (SizesAtMost-prop b ms)

poly-discrete : Discrete Poly
poly-discrete (Number x) (Number y) = map_dec (ap Number) (λ e. cc) (ℤ_discrete x y)
poly-discrete (Number x) End = no (λ e. cc)
poly-discrete (Number x) (Coef c r) = no (λ e. cc)
poly-discrete End (Number y) = no (λ e. cc)
poly-discrete End End = yes refl
poly-discrete End (Coef c r) = no (λ e. cc)
poly-discrete (Coef c r) (Number y) = no (λ e. cc)
poly-discrete (Coef c r) End = no (λ e. cc)
poly-discrete (Coef c r) (Coef d s) = both (poly-discrete c d) (poly-discrete r s)
  where
    both : Dec (c ≡ d) → Dec (r ≡ s) → Dec (Coef c r ≡ Coef d s)
    both (yes e) (yes f) = yes (cc)
    both (yes e) (no f) = no (λ g. f (cc))
    both (no e) f = no (λ g. e (cc))

poly-set : IsSet Poly
poly-set = hedberg poly-discrete

monomial_code : Coded Monomial
monomial_code = code_by (ℕ × ℤ) (coded× coded_ℕ coded_ℤ) (λ m. (m.key, m.times)) (λ p. monomial p.0 p.1) (λ _. refl)

monomials-set : IsSet (List Monomial)
monomials-set = Coded-set (coded_list monomial_code)

Trimmed-prop : (ps : List Poly) → IsProp (Trimmed ps)
unfolding Trimmed
Trimmed-prop [] = Unit-prop
Trimmed-prop (c ∷ cs) = ×_prop (T_prop _) (Trimmed-prop cs)

AllOf-prop : (P : Poly → Type 0) → ((p : Poly) → IsProp (P p)) → (ps : List Poly) → IsProp (AllOf P ps)
unfolding AllOf
AllOf-prop P h [] = Unit-prop
AllOf-prop P h (c ∷ cs) = ×_prop (h c) (AllOf-prop P h cs)

Depth-prop : (n : ℕ) (p : Poly) → IsProp (Depth n p)
unfolding Depth
Depth-prop zero (Number z) = Unit-prop
Depth-prop zero End = λ x. absurd x
Depth-prop zero (Coef c r) = λ x. absurd x
Depth-prop (suc n) (Number z) = λ x. absurd x
Depth-prop (suc n) End = Unit-prop
Depth-prop (suc n) (Coef c r) = ×_prop (Depth-prop n c) (Depth-prop (suc n) r)

Canon-prop : (b n : ℕ) (p : Poly) → IsProp (Canon b n p)
unfolding Canon
Canon-prop b zero p = Depth-prop zero p
Canon-prop b (suc n) p = hlevel (poly-set, le_prop, Trimmed-prop (coefs p), AllOf-prop (Canon b n) (Canon-prop b n) (coefs p))

pub AllHold-prop : (n : ℕ) (slots : List ℤ) → IsProp (AllHold n slots)
AllHold-prop n slots = hlevel (Rising-prop, SizesAtMost-prop, Canon-prop, monomials-set, le_prop)
