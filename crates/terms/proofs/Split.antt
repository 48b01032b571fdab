-- A list of monomials parted at a key. Assumes nothing.
use Rattle.std.proofs.Common.{◌≡◌, ℕ, suc, ◌+◌, ◌-◌, ◌<◌, ◌≤◌, true, false, ltb, List, [], ◌∷◌, ◌++◌, length, take, drop, refl, ap, ◌∙◌, ap₂, arith, ltb→lt, lt→ltb}
use Rattle.terms.specs.Monomial.{Monomial, monomial, raised, Rising}
use Rattle.terms.specs.LeadingTerms.{count_below, lowered}
use Rattle.terms.proofs.Tests.{T_true, on_test}

pub count_more : (b : ℕ) (m : Monomial) (ms : List Monomial) → m.key < b → count_below b (m ∷ ms) ≡ suc (count_below b ms)
unfolding count_below
count_more b m ms l = ap (λ t. elim t as (λ _. ℕ) [ true ↦ suc (count_below b ms) | false ↦ 0 ]) (T_true (ltb m.key b) (lt→ltb m.key b l))

pub count_none : (b : ℕ) (m : Monomial) (ms : List Monomial) → b ≤ m.key → count_below b (m ∷ ms) ≡ 0
unfolding count_below
count_none b m ms l = on_test (ltb m.key b) (λ t. (elim t as (λ _. ℕ) [ true ↦ suc (count_below b ms) | false ↦ 0 ]) ≡ 0) (λ t. let g = ltb→lt m.key b t in absurd (omega arith)) (λ t. refl)

pub split_count : (lo b hi : ℕ) (s t : List Monomial) → Rising lo b s → Rising b hi t → count_below b (s ++ t) ≡ length s
unfolding Rising
split_count lo b hi [] [] r q = unfold count_below in refl
split_count lo b hi [] (m ∷ t) r q = count_none b m t q.0
split_count lo b hi (m ∷ s) t r q = count_more b m (s ++ t) r.1 ∙ ap suc (split_count (suc m.key) b hi s t r.3 q)

take-length : (s t : List Monomial) → take (length s) (s ++ t) ≡ s
take-length [] [] = refl
take-length [] (m ∷ t) = refl
take-length (m ∷ s) t = ap (λ l. m ∷ l) (take-length s t)

drop-length : (s t : List Monomial) → drop (length s) (s ++ t) ≡ t
drop-length [] [] = refl
drop-length [] (m ∷ t) = refl
drop-length (m ∷ s) t = drop-length s t

pub below_split : (lo b hi : ℕ) (s t : List Monomial) → Rising lo b s → Rising b hi t → take (count_below b (s ++ t)) (s ++ t) ≡ s
below_split lo b hi s t r q = ap (λ i. take i (s ++ t)) (split_count lo b hi s t r q) ∙ take-length s t

pub from_split : (lo b hi : ℕ) (s t : List Monomial) → Rising lo b s → Rising b hi t → drop (count_below b (s ++ t)) (s ++ t) ≡ t
from_split lo b hi s t r q = ap (λ i. drop i (s ++ t)) (split_count lo b hi s t r q) ∙ drop-length s t

pub lowered-raised : (d : ℕ) (s : List Monomial) → lowered d (raised d s) ≡ s
unfolding lowered raised
lowered-raised d [] = refl
lowered-raised d (m ∷ s) = let e : d + m.key - d ≡ m.key = omega arith in ap₂ (λ k ms. monomial k m.times ∷ ms) e (lowered-raised d s)
