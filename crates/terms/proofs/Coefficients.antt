-- The coefficient at a key, as a sum over a list: it adds up over lists that are joined or merged. Assumes nothing.
use Rattle.std.proofs.Common.{◌≡◌, ℕ, ◌+◌, ◌-◌, ◌<◌, ◌≤◌, Bool, true, false, cond, not, T, eqb, ltb, List, [], ◌∷◌, ◌++◌, ℤ, pos, ◌+ℤ◌, sym, refl, ap, ◌∙◌, ap₂, arith, ltb→lt, nltb→le}
use lib.IntN.{+ℤ_assoc, +ℤ_idl}
use Rattle.poly.specs.Poly.{is_zero_number}
use Rattle.terms.specs.Monomial.{Monomial, monomial, raised, coefficient_at}
use Rattle.terms.specs.Operations.{put_term, merge_term, add_terms}
use Rattle.terms.proofs.Tests.{on_test, eqb_apart, eqb_same, by_less}
use Rattle.terms.proofs.Integers.{add_left_comm, add-exchange, is_zero_lem}

-- what one monomial has at a key
abbrev pub here : ℕ → Monomial → ℤ
here k m = cond (eqb m.key k) m.times (pos 0)

pub coefficient_cons : (k : ℕ) (m : Monomial) (ms : List Monomial) → coefficient_at k (m ∷ ms) ≡ here k m +ℤ coefficient_at k ms
unfolding coefficient_at
coefficient_cons k m ms = refl

pub coefficient_nil : (k : ℕ) → coefficient_at k [] ≡ pos 0
unfolding coefficient_at
coefficient_nil k = refl

-- two lists with the same coefficients
abbrev pub Alike : List Monomial → List Monomial → Type 0
Alike s t = (k : ℕ) → coefficient_at k s ≡ coefficient_at k t

pub coefficient-append : (k : ℕ) (s t : List Monomial) → coefficient_at k (s ++ t) ≡ coefficient_at k s +ℤ coefficient_at k t
coefficient-append k [] t = sym (ap (λ u. u +ℤ coefficient_at k t) (coefficient_nil k) ∙ +ℤ_idl (coefficient_at k t))
coefficient-append k (m ∷ s) t =
    coefficient_cons k m (s ++ t) ∙ ap (λ u. here k m +ℤ u) (coefficient-append k s t)
    ∙ sym (+ℤ_assoc (here k m) (coefficient_at k s) (coefficient_at k t)) ∙ ap (λ u. u +ℤ coefficient_at k t) (sym (coefficient_cons k m s))

pub alike_append : (s s' t t' : List Monomial) → Alike s s' → Alike t t' → Alike (s ++ t) (s' ++ t')
alike_append s s' t t' h g k = coefficient-append k s t ∙ ap₂ ◌+ℤ◌ (h k) (g k) ∙ sym (coefficient-append k s' t')

-- add-exchange lists joined: the two in the middle exchanged
pub alike_exchange : (a b c d : List Monomial) → Alike ((a ++ b) ++ (c ++ d)) ((a ++ c) ++ (b ++ d))
alike_exchange a b c d k =
    both_pairs a b c d ∙ add-exchange (coefficient_at k a) (coefficient_at k b) (coefficient_at k c) (coefficient_at k d) ∙ sym (both_pairs a c b d)
  where
    both_pairs : (a b c d : List Monomial) → coefficient_at k ((a ++ b) ++ (c ++ d)) ≡ (coefficient_at k a +ℤ coefficient_at k b) +ℤ (coefficient_at k c +ℤ coefficient_at k d)
    both_pairs a b c d = coefficient-append k (a ++ b) (c ++ d) ∙ ap₂ ◌+ℤ◌ (coefficient-append k a b) (coefficient-append k c d)

pub here_apart : (k : ℕ) (m : Monomial) → (m.key ≡ k → ⊥) → here k m ≡ pos 0
here_apart k m h = ap (λ b. cond b m.times (pos 0)) (eqb_apart m.key k h)

pub coefficient-below : (k d : ℕ) (s : List Monomial) → k < d → coefficient_at k (raised d s) ≡ pos 0
unfolding raised
coefficient-below k d [] h = coefficient_nil k
coefficient-below k d (m ∷ s) h =
    coefficient_cons k (monomial (d + m.key) m.times) (raised d s)
    ∙ ap₂ ◌+ℤ◌ (here_apart k (monomial (d + m.key) m.times) (λ e. omega arith)) (coefficient-below k d s h)

pub coefficient-raised : (k d : ℕ) (s : List Monomial) → coefficient_at (d + k) (raised d s) ≡ coefficient_at k s
unfolding raised
coefficient-raised k d [] = coefficient_nil (d + k) ∙ sym (coefficient_nil k)
coefficient-raised k d (m ∷ s) =
    coefficient_cons (d + k) (monomial (d + m.key) m.times) (raised d s)
    ∙ ap₂ ◌+ℤ◌ (ap (λ b. cond b m.times (pos 0)) (eqb_same (d + m.key) (d + k) m.key k (λ e. omega arith) (λ e. omega arith))) (coefficient-raised k d s)
    ∙ sym (coefficient_cons k m s)

pub alike_raised : (d : ℕ) (s t : List Monomial) → Alike s t → Alike (raised d s) (raised d t)
alike_raised d s t h k =
    by_less k d (λ l. coefficient-below k d s l ∙ sym (coefficient-below k d t l))
    (λ l.
    let e : k ≡ d + (k - d) = omega arith in
    ap (λ j. coefficient_at j (raised d s)) e ∙ coefficient-raised (k - d) d s ∙ h (k - d) ∙ sym (coefficient-raised (k - d) d t) ∙ ap (λ j. coefficient_at j (raised d t)) (sym e))

-- the three cases of a merge
pub merge_cases : (a b : Monomial) (f : List Monomial → List Monomial) (bs : List Monomial) (P : List Monomial → Type 0) →
    (a.key < b.key → P (a ∷ f (b ∷ bs))) → (b.key < a.key → P (b ∷ merge_term a f bs)) →
    (a.key ≡ b.key → P (put_term (monomial a.key (a.times +ℤ b.times)) (f bs))) → P (merge_term a f (b ∷ bs))
unfolding merge_term
merge_cases a b f bs P less greater equal =
    go (ltb a.key b.key) (ltb b.key a.key) (ltb→lt a.key b.key) (nltb→le a.key b.key) (ltb→lt b.key a.key) (nltb→le b.key a.key)
  where
    go : (x y : Bool) → (T x → a.key < b.key) → (T (not x) → b.key ≤ a.key) → (T y → b.key < a.key) → (T (not y) → a.key ≤ b.key) →
        P (elim x as (λ _. List Monomial) [ true ↦ a ∷ f (b ∷ bs) | false ↦ elim y [ true ↦ b ∷ merge_term a f bs | false ↦ put_term (monomial a.key (a.times +ℤ b.times)) (f bs) ] ])
    go true y lx gx ly gy = less (lx tt)
    go false true lx gx ly gy = greater (ly tt)
    go false false lx gx ly gy = let g = gx tt in let h = gy tt in equal (omega arith)

pub put_cases : (m : Monomial) (ms : List Monomial) (P : List Monomial → Type 0) → (T (is_zero_number m.times) → P ms) → (T (not (is_zero_number m.times)) → P (m ∷ ms)) → P (put_term m ms)
unfolding put_term
put_cases m ms P h k = on_test (is_zero_number m.times) (λ b. P (elim b as (λ _. List Monomial) [ true ↦ ms | false ↦ m ∷ ms ])) h k

pub coefficient-put : (k : ℕ) (m : Monomial) (ms : List Monomial) → coefficient_at k (put_term m ms) ≡ here k m +ℤ coefficient_at k ms
coefficient-put k m ms =
    put_cases m ms (λ l. coefficient_at k l ≡ here k m +ℤ coefficient_at k ms)
    (λ t. sym (ap (λ u. u +ℤ coefficient_at k ms) (none (eqb m.key k) (is_zero_lem m.times t)) ∙ +ℤ_idl (coefficient_at k ms)))
    (λ t. coefficient_cons k m ms)
  where
    none : (b : Bool) → m.times ≡ pos 0 → cond b m.times (pos 0) ≡ pos 0
    none true e = e
    none false e = refl

coefficient_merge : (k : ℕ) (a : Monomial) (p : List Monomial) (f : List Monomial → List Monomial) → ((t : List Monomial) → coefficient_at k (f t) ≡ coefficient_at k p +ℤ coefficient_at k t) →
    (t : List Monomial) → coefficient_at k (merge_term a f t) ≡ coefficient_at k (a ∷ p) +ℤ coefficient_at k t
coefficient_merge k a p f h [] =
    unfold merge_term in coefficient_cons k a (f []) ∙ ap (λ u. here k a +ℤ u) (h []) ∙ sym (+ℤ_assoc (here k a) (coefficient_at k p) (coefficient_at k [])) ∙ ap (λ u. u +ℤ coefficient_at k []) (sym (coefficient_cons k a p))
coefficient_merge k a p f h (b ∷ t) =
    let ih = coefficient_merge k a p f h t in
    merge_cases a b f t (λ l. coefficient_at k l ≡ coefficient_at k (a ∷ p) +ℤ coefficient_at k (b ∷ t))
    (λ _. coefficient_cons k a (f (b ∷ t)) ∙ ap (λ u. here k a +ℤ u) (h (b ∷ t)) ∙ sym (+ℤ_assoc (here k a) (coefficient_at k p) (coefficient_at k (b ∷ t))) ∙ ap (λ u. u +ℤ coefficient_at k (b ∷ t)) (sym (coefficient_cons k a p)))
    (λ _. coefficient_cons k b (merge_term a f t) ∙ ap (λ u. here k b +ℤ u) ih ∙ add_left_comm (here k b) (coefficient_at k (a ∷ p)) (coefficient_at k t) ∙ ap (λ u. coefficient_at k (a ∷ p) +ℤ u) (sym (coefficient_cons k b t)))
    (λ e.
    coefficient-put k (monomial a.key (a.times +ℤ b.times)) (f t) ∙ ap₂ ◌+ℤ◌ (split (eqb a.key k) ∙ ap (λ j. here k a +ℤ cond (eqb j k) b.times (pos 0)) e) (h t)
    ∙ add-exchange (here k a) (here k b) (coefficient_at k p) (coefficient_at k t) ∙ ap₂ ◌+ℤ◌ (sym (coefficient_cons k a p)) (sym (coefficient_cons k b t)))
  where
    split : (c : Bool) → cond c (a.times +ℤ b.times) (pos 0) ≡ cond c a.times (pos 0) +ℤ cond c b.times (pos 0)
    split true = refl
    split false = refl

pub coefficient-add : (k : ℕ) (s t : List Monomial) → coefficient_at k (add_terms s t) ≡ coefficient_at k s +ℤ coefficient_at k t
unfolding add_terms
coefficient-add k [] t = sym (ap (λ u. u +ℤ coefficient_at k t) (coefficient_nil k) ∙ +ℤ_idl (coefficient_at k t))
coefficient-add k (a ∷ p) t = coefficient_merge k a p (add_terms p) (coefficient-add k p) t

-- a merge has the coefficients of the two lists joined
pub alike_add : (s t : List Monomial) → Alike (add_terms s t) (s ++ t)
alike_add s t k = coefficient-add k s t ∙ sym (coefficient-append k s t)
