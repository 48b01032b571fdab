-- Sums of whole numbers, and which of them are zero. Assumes nothing.
use Rattle.std.proofs.Common.{◌≡◌, ℕ, zero, suc, ◌*◌, ◌≤◌, not, T, eqb, ℤ, pos, negsuc, ◌+ℤ◌, ◌*ℤ◌, neg_ℤ, sym, ap, ◌∙◌, subst, mul-suc, arith, eqb→eq}
use lib.Dec.{not_T}
use lib.IntN.{+ℤ_assoc, +ℤ_comm, +ℤ_idl, +ℤ_invl}
use Rattle.poly.specs.Poly.{is_zero_number}

pub add_left_comm : (a b c : ℤ) → a +ℤ (b +ℤ c) ≡ b +ℤ (a +ℤ c)
add_left_comm a b c = sym (+ℤ_assoc a b c) ∙ ap (λ u. u +ℤ c) (+ℤ_comm a b) ∙ +ℤ_assoc b a c

pub add-exchange : (a b c d : ℤ) → (a +ℤ b) +ℤ (c +ℤ d) ≡ (a +ℤ c) +ℤ (b +ℤ d)
add-exchange a b c d = +ℤ_assoc a b (c +ℤ d) ∙ ap (λ u. a +ℤ u) (add_left_comm b c d) ∙ sym (+ℤ_assoc a c (b +ℤ d))

pub add_cancel : (x u v : ℤ) → x +ℤ u ≡ x +ℤ v → u ≡ v
add_cancel x u v e = sym (gone u) ∙ ap (λ w. neg_ℤ x +ℤ w) e ∙ gone v
  where
    gone : (w : ℤ) → neg_ℤ x +ℤ (x +ℤ w) ≡ w
    gone w = sym (+ℤ_assoc (neg_ℤ x) x w) ∙ ap (λ u. u +ℤ w) (+ℤ_invl x) ∙ +ℤ_idl w

pub is_zero_lem : (z : ℤ) → T (is_zero_number z) → z ≡ pos 0
is_zero_lem (pos n) t = ap pos (eqb→eq n 0 t)
is_zero_lem (negsuc n) t = absurd t

abbrev pub NotZero : ℤ → Type 0
NotZero z = T (not (is_zero_number z))

pub not_zero : (z : ℤ) → NotZero z → z ≡ pos 0 → ⊥
not_zero z h e = subst NotZero e h

pub positive : (n : ℕ) → 1 ≤ n → NotZero (pos n)
positive n h = not_T (eqb n 0) (λ t. let e = eqb→eq n 0 t in omega arith)

pub not_zero_neg : (z : ℤ) → NotZero z → NotZero (neg_ℤ z)
not_zero_neg (pos zero) h = h
not_zero_neg (pos (suc n)) h = tt
not_zero_neg (negsuc n) h = positive (suc n) (omega arith)

product_positive : (a b : ℕ) → NotZero (pos (suc a * suc b))
product_positive a b = positive (suc a * suc b) (omega (arith, mul-suc (suc a) b))

pub not_zero_mul : (x y : ℤ) → NotZero x → NotZero y → NotZero (x *ℤ y)
not_zero_mul (pos zero) y h k = absurd h
not_zero_mul (negsuc a) (pos zero) h k = absurd k
not_zero_mul (pos (suc a)) (pos zero) h k = absurd k
not_zero_mul (pos (suc a)) (pos (suc b)) h k = product_positive a b
not_zero_mul (pos (suc a)) (negsuc b) h k = not_zero_neg (pos (suc a * suc b)) (product_positive a b)
not_zero_mul (negsuc a) (pos (suc b)) h k = not_zero_neg (pos (suc a * suc b)) (product_positive a b)
not_zero_mul (negsuc a) (negsuc b) h k = product_positive a b
