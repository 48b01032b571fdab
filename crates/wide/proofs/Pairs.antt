-- Lists of keys and of coefficients, as long as each other, as one list. Assumes nothing.
use Rattle.std.proofs.Common.{◌≡◌, ℕ, zero, suc, ◌+◌, ◌<◌, ◌≤◌, List, [], ◌∷◌, ◌++◌, length, get_or, take, set, ℤ, pos, nat_abs, refl, ap, ◌∙◌, le_of_suc-le-suc, arith, length-take-le}
use Rattle.std.proofs.lemmas.List.{take_more_set, get_or-take}
use Rattle.terms.specs.Monomial.{monomial}
use Rattle.packed.specs.Terms.{term_at}
use Rattle.wide.specs.Pairs.{paired}

pub length-paired : (ks cs : List ℤ) → length ks ≡ length cs → length (paired ks cs) ≡ length ks
unfolding paired
length-paired [] cs e = refl
length-paired (k ∷ ks) [] e = absurd (omega arith)
length-paired (k ∷ ks) (c ∷ cs) e = let p : length ks ≡ length cs = omega arith in ap suc (length-paired ks cs p)

pub paired_at : (ks cs : List ℤ) (i : ℕ) → i < length ks → i < length cs →
    term_at (paired ks cs) i ≡ monomial (nat_abs (get_or ks i (pos 0))) (get_or cs i (pos 0))
unfolding paired
paired_at [] cs i h g = absurd (omega arith)
paired_at (k ∷ ks) [] i h g = absurd (omega arith)
paired_at (k ∷ ks) (c ∷ cs) zero h g = refl
paired_at (k ∷ ks) (c ∷ cs) (suc i) h g = paired_at ks cs i (le_of_suc-le-suc h) (le_of_suc-le-suc g)

paired_set : (ks cs : List ℤ) (i : ℕ) (k c : ℤ) → paired (set ks i k) (set cs i c) ≡ set (paired ks cs) i (monomial (nat_abs k) c)
unfolding paired
paired_set [] cs i k c = refl
paired_set (x ∷ ks) [] zero k c = refl
paired_set (x ∷ ks) [] (suc i) k c = refl
paired_set (x ∷ ks) (y ∷ cs) zero k c = refl
paired_set (x ∷ ks) (y ∷ cs) (suc i) k c = ap (λ w. monomial (nat_abs x) y ∷ w) (paired_set ks cs i k c)

pub length-written : (n : ℕ) (ks cs : List ℤ) → length ks ≡ length cs → n ≤ length ks → length (take n (paired ks cs)) ≡ n
length-written n ks cs e h = length-take-le n (paired ks cs) (let p = length-paired ks cs e in omega arith)

pub written_at : (n : ℕ) (ks cs : List ℤ) (i : ℕ) → length ks ≡ length cs → n ≤ length ks → i < n →
    term_at (take n (paired ks cs)) i ≡ monomial (nat_abs (get_or ks i (pos 0))) (get_or cs i (pos 0))
written_at n ks cs i e h l = get_or-take n (paired ks cs) i (monomial 0 (pos 0)) l ∙ paired_at ks cs i (omega arith) (omega arith)

pub written_more : (n : ℕ) (ks cs : List ℤ) (k : ℕ) (c : ℤ) (kz : ℤ) → length ks ≡ length cs → n < length ks → nat_abs kz ≡ k →
    take (n + 1) (paired (set ks n kz) (set cs n c)) ≡ take n (paired ks cs) ++ monomial k c ∷ []
written_more n ks cs k c kz e h q =
    ap (take (n + 1)) (paired_set ks cs n kz c) ∙ take_more_set (paired ks cs) n (monomial (nat_abs kz) c) (let p = length-paired ks cs e in omega arith) ∙
    ap (λ x. take n (paired ks cs) ++ monomial x c ∷ []) q
