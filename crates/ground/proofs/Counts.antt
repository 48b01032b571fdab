-- Counts that stop at 3,500: two numbers count alike where they are equal up to there, and sums and products keep this.
use Rattle.std.proofs.Common.{◌≡◌, ℕ, zero, suc, ◌+◌, ◌*◌, ◌≤◌, ltb, sym, refl, ap, ◌∙◌, add_assoc, mul_assoc, mul_comm, add-mul, add_comm, mul-zero, mul-add, le-mul_of_pos_right, arith}
use native.Mathlib.Nat.{add_left_comm}
use native.Mathlib.Decide.{ℕ_discrete}
use Rattle.std.proofs.lemmas.Bool.Decides.{nat_tests}
use Rattle.ground.specs.Outline.{capped}

pub capped-add : (a b c d : ℕ) → capped a ≡ capped b → capped c ≡ capped d → capped (a + c) ≡ capped (b + d)
capped-add a b c d e h = omega arith

pub capped-capped : (a : ℕ) → capped (capped a) ≡ capped a
capped-capped a = omega arith

pub capped-mul : (a b k : ℕ) → capped a ≡ capped b → capped (a * k) ≡ capped (b * k)
capped-mul a b zero e = ap capped (mul-zero a ∙ sym (mul-zero b))
capped-mul a b (suc k) e = decided (ℕ_discrete a b)
  where
    decided : Dec (a ≡ b) → capped (a * suc k) ≡ capped (b * suc k)
    decided (yes same) = ap (λ n. capped (n * suc k)) same
    decided (no differ) =
        let p : a ≤ a * suc k = le-mul_of_pos_right a (omega arith) in
        let q : b ≤ b * suc k = le-mul_of_pos_right b (omega arith) in omega arith

pub capped-mul_right : (k a b : ℕ) → capped a ≡ capped b → capped (k * a) ≡ capped (k * b)
capped-mul_right k a b e = ap capped (mul_comm k a) ∙ capped-mul a b k e ∙ ap capped (mul_comm b k)

-- the tree of a conjunction, counted: x stands for the second formula's tree, which stands yes times in the first's
pub capped-join : (a b c a' b' c' x y n : ℕ) → capped x ≡ capped (a' + (b' * y + c' * n)) →
    capped (a + (b * x + c * n)) ≡ capped (capped (a + b * a') + (capped (b * b') * y + capped (c + b * c') * n))
capped-join a b c a' b' c' x y n e =
    capped-add a a (b * x + c * n) (b * (a' + (b' * y + c' * n)) + c * n) refl
    (capped-add (b * x) (b * (a' + (b' * y + c' * n))) (c * n) (c * n) (capped-mul_right b x (a' + (b' * y + c' * n)) e) refl) ∙
    ap capped regrouped ∙
    sym (capped-add (capped (a + b * a')) (a + b * a') (capped (b * b') * y + capped (c + b * c') * n) ((b * b') * y + (c + b * c') * n) (capped-capped (a + b * a'))
    (capped-add (capped (b * b') * y) ((b * b') * y) (capped (c + b * c') * n) ((c + b * c') * n)
    (capped-mul (capped (b * b')) (b * b') y (capped-capped (b * b'))) (capped-mul (capped (c + b * c')) (c + b * c') n (capped-capped (c + b * c')))))
  where
    regrouped : a + (b * (a' + (b' * y + c' * n)) + c * n) ≡ (a + b * a') + ((b * b') * y + (c + b * c') * n)
    regrouped = simp (mul-add, add-mul, mul_assoc, add_assoc, add_comm, add_left_comm)

pub capped-below : (a b : ℕ) → capped a ≡ capped b → ltb a 3500 ≡ ltb b 3500
capped-below a b e = grind (arith, nat_tests)
