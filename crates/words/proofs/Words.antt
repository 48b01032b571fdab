-- What words read as, a level at a time, and what is left of it where the parts are only passed over.
use Rattle.std.proofs.Common.{◌≡◌, ℕ, zero, suc, ◌-◌, Bool, ◌⊎◌, List, ◌∷◌, ℤ, sym, refl, ap, ◌∙◌, inl, inr, arith}
use Rattle.field.specs.Sentence.{Term}
use Rattle.words.specs.declared.kind.Kind.{Kind}
use Rattle.words.specs.Kind.{kind_of}
use Rattle.words.specs.Reading.{Reading, Refused, Read, then, mapped, skipped, two, meant}
use Rattle.words.specs.Words.{term_by, term_at, formula_by, formula_at, quantifier_of, quantifiers_at}

pub term_none : (d v : ℕ) (zs : List ℤ) → d ≡ 0 → term_at d v zs ≡ Refused
unfolding term_at
term_none zero v zs e = refl
term_none (suc d) v zs e = absurd (omega arith)

pub term_open : (d v : ℕ) (zs : List ℤ) → (d ≡ 0 → ⊥) → term_at d v zs ≡ then (meant kind_of zs) (term_by v (term_at (d - 1) v))
unfolding term_at
term_open zero v zs n = absurd (n refl)
term_open (suc d) v zs n = let e : suc d - 1 ≡ d = omega arith in ap (λ k. then (meant kind_of zs) (term_by v (term_at k v))) (sym e)

pub formula_none : (d v : ℕ) (zs : List ℤ) → d ≡ 0 → formula_at d v zs ≡ Refused
unfolding formula_at
formula_none zero v zs e = refl
formula_none (suc d) v zs e = absurd (omega arith)

pub formula_open : (d v : ℕ) (zs : List ℤ) → (d ≡ 0 → ⊥) →
    formula_at d v zs ≡ then (meant kind_of zs) (formula_by (term_at (d - 1) v) (formula_at (d - 1) v))
unfolding formula_at
formula_open zero v zs n = absurd (n refl)
formula_open (suc d) v zs n =
    let e : suc d - 1 ≡ d = omega arith in ap (λ k. then (meant kind_of zs) (formula_by (term_at k v) (formula_at k v))) (sym e)

-- what becomes of the parts of two of a kind becomes of the two
pub mapped-two : {A B C D : Type 0} (h : B → D) (g : A → C) (make : A → A → B) (join : C → C → D) → ((a b : A) → h (make a b) ≡ join (g a) (g b)) →
    (go : List ℤ → Reading A) (zs : List ℤ) → mapped h (two make go zs) ≡ two join (λ ws. mapped g (go ws)) zs
mapped-two {A} {B} {C} {D} h g make join same go zs = first (go zs)
  where
    second : (a : A) (n : Reading A) →
        mapped h (then n (λ b more. Read (make a b) more)) ≡ then (mapped g n) (λ b more. Read (join (g a) b) more)
    second a Refused = refl
    second a (Read b more) = ap (λ d. Read d more) (same a b)

    first : (m : Reading A) →
        mapped h (then m (λ a rest. then (go rest) (λ b more. Read (make a b) more))) ≡
        then (mapped g m) (λ a rest. then (mapped g (go rest)) (λ b more. Read (join a b) more))
    first Refused = refl
    first (Read a rest) = second a (go rest)

-- two of a kind that are passed over
pub skipped-two : {A B : Type 0} (make : A → A → B) (go : List ℤ → Reading A) (zs : List ℤ) →
    mapped skipped (two make go zs) ≡ then (mapped skipped (go zs)) (λ _ rest. mapped skipped (go rest))
skipped-two {A} {B} make go zs = first (go zs)
  where
    second : (a : A) (n : Reading A) → mapped skipped (then n (λ b more. Read (make a b) more)) ≡ mapped skipped n
    second a Refused = refl
    second a (Read b more) = refl

    first : (m : Reading A) →
        mapped skipped (then m (λ a rest. then (go rest) (λ b more. Read (make a b) more))) ≡ then (mapped skipped m) (λ _ rest. mapped skipped (go rest))
    first Refused = refl
    first (Read a rest) = second a (go rest)

pub skipped-mapped : {A B : Type 0} (g : A → B) (m : Reading A) → mapped skipped (mapped g m) ≡ mapped skipped m
skipped-mapped g Refused = refl
skipped-mapped g (Read a zs) = refl

-- the level below, once the kind is known
pub term_of_kind : (d v : ℕ) (zs rest : List ℤ) (k : Kind) → (d ≡ 0 → ⊥) → Read k rest ≡ meant kind_of zs →
    term_at d v zs ≡ term_by v (term_at (d - 1) v) k rest
term_of_kind d v zs rest k n e = term_open d v zs n ∙ ap (λ m. then m (term_by v (term_at (d - 1) v))) (sym e)

pub formula_of_kind : (d v : ℕ) (zs rest : List ℤ) (k : Kind) → (d ≡ 0 → ⊥) → Read k rest ≡ meant kind_of zs →
    formula_at d v zs ≡ formula_by (term_at (d - 1) v) (formula_at (d - 1) v) k rest
formula_of_kind d v zs rest k n e = formula_open d v zs n ∙ ap (λ m. then m (formula_by (term_at (d - 1) v) (formula_at (d - 1) v))) (sym e)

pub no_term : (v : ℕ) (go : List ℤ → Reading Term) (k : Kind) (zs : List ℤ) →
    (k ≡ Kind.BelowZero) ⊎ ((k ≡ Kind.EqualsZero) ⊎ ((k ≡ Kind.Not) ⊎ ((k ≡ Kind.And) ⊎ (k ≡ Kind.Or)))) → term_by v go k zs ≡ Refused
no_term v go k zs (inl e) = rw e
no_term v go k zs (inr (inl e)) = rw e
no_term v go k zs (inr (inr (inl e))) = rw e
no_term v go k zs (inr (inr (inr (inl e)))) = rw e
no_term v go k zs (inr (inr (inr (inr e)))) = rw e

pub no_quantifier : (n : ℕ) (zs : List ℤ) → n ≡ 0 → mapped skipped (quantifiers_at n zs) ≡ Read tt zs
unfolding quantifiers_at
no_quantifier zero zs e = refl
no_quantifier (suc n) zs e = absurd (omega arith)

pub one_quantifier : (n : ℕ) (zs : List ℤ) → (n ≡ 0 → ⊥) →
    mapped skipped (quantifiers_at n zs) ≡ then (meant quantifier_of zs) (λ _ rest. mapped skipped (quantifiers_at (n - 1) rest))
unfolding quantifiers_at
one_quantifier zero zs h = absurd (h refl)
one_quantifier (suc n) zs h =
    let e : suc n - 1 ≡ n = omega arith in first (meant quantifier_of zs) ∙ ap (λ k. then (meant quantifier_of zs) (λ _ rest. mapped skipped (quantifiers_at k rest))) (sym e)
  where
    first : (m : Reading Bool) → mapped skipped (then m (λ q rest. mapped (λ qs. q ∷ qs) (quantifiers_at n rest))) ≡ then m (λ _ rest. mapped skipped (quantifiers_at n rest))
    first Refused = refl
    first (Read q rest) = skipped-mapped (λ qs. q ∷ qs) (quantifiers_at n rest)

-- the level below, passed over
pub ruleset term_steps = (term_none, term_open, skipped-mapped, skipped-two)

pub ruleset formula_steps = (formula_none, formula_open, skipped-mapped, skipped-two)

pub ruleset quantifier_steps = (no_quantifier, one_quantifier)
