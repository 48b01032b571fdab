-- Tests of natural numbers, and both cases of a test. Assumes nothing.
use Rattle.std.proofs.Common.{◌≡◌, ℕ, ◌<◌, ◌≤◌, Bool, true, false, not, ◌&&◌, T, eqb, ltb, refl, subst, eqb→eq, ltb→lt, lt→ltb, nltb→le}
use lib.Dec.{eqb_refl}

pub on_test : (b : Bool) (P : Bool → Type 0) → (T b → P true) → (T (not b) → P false) → P b
on_test true P h k = h tt
on_test false P h k = k tt

pub T-same : (a b : Bool) → (T a → T b) → (T b → T a) → a ≡ b
T-same true true h k = refl
T-same true false h k = absurd (h tt)
T-same false true h k = absurd (k tt)
T-same false false h k = refl

pub T_true : (b : Bool) → T b → b ≡ true
T_true true t = refl
T_true false t = absurd t

pub T_false : (b : Bool) → T (not b) → b ≡ false
T_false true t = absurd t
T_false false t = refl

pub T-both : (a b : Bool) → T (a && b) → T a × T b
T-both true b t = (tt, t)
T-both false b t = absurd t

pub both_T : (a b : Bool) → T a → T b → T (a && b)
both_T true b s t = t
both_T false b s t = absurd s

pub eq→eqb : (a b : ℕ) → a ≡ b → T (eqb a b)
eq→eqb a b e = subst (λ k. T (eqb a k)) e (eqb_refl a)

pub eqb_apart : (a b : ℕ) → (a ≡ b → ⊥) → eqb a b ≡ false
eqb_apart a b h = on_test (eqb a b) (λ t. t ≡ false) (λ t. absurd (h (eqb→eq a b t))) (λ t. refl)

pub eqb_same : (a b c d : ℕ) → (a ≡ b → c ≡ d) → (c ≡ d → a ≡ b) → eqb a b ≡ eqb c d
eqb_same a b c d h k = T-same (eqb a b) (eqb c d) (λ t. eq→eqb c d (h (eqb→eq a b t))) (λ t. eq→eqb a b (k (eqb→eq c d t)))

pub ltb-same : (a b c d : ℕ) → (a < b → c < d) → (c < d → a < b) → ltb a b ≡ ltb c d
ltb-same a b c d h k = T-same (ltb a b) (ltb c d) (λ t. lt→ltb c d (h (ltb→lt a b t))) (λ t. lt→ltb a b (k (ltb→lt c d t)))

-- the two sides of a test by order
pub by_less : {A : Type 0} (a b : ℕ) → (a < b → A) → (b ≤ a → A) → A
by_less {A} a b h k = on_test (ltb a b) (λ _. A) (λ t. h (ltb→lt a b t)) (λ t. k (nltb→le a b t))
