-- The tests of modesty, a step at a time, and what they imply. Assumes nothing.
use Rattle.std.proofs.Common.{◌≡◌, Bool, Option, None, Some, MatchOption, ap₂, ℕ, zero, suc, ◌+◌, ◌-◌, ◌/◌, ◌%◌, ◌^◌, ◌<◌, ◌≤◌, true, false, cond, ◌&&◌, T, eqb, ltb, leb, List, [], ◌∷◌, length, sym, refl, ap, ◌∙◌, subst, arith, eqb→eq, ltb→lt, leb→le, le-ltb, lt-ltb}
use Rattle.poly.specs.Modest.{magnitude}
use Rattle.terms.specs.Monomial.{Monomial, Rising}
use Rattle.terms.specs.ModestTerms.{small_key, small_terms, last_digits, modest_terms}
use Rattle.terms.proofs.Tests.{T-both, on_test}
use Rattle.std.specs.List.{FoldsTo}
use Rattle.std.specs.Iterator.{YieldsFirstBy, YieldsThen, ChecksAll}
use denote.Param.Members.{Mut, Called}
use Rattle.packed.specs.declared.term.Term.{Term}
use Rattle.packed.specs.Terms.{monomial_in}

pub small_done : (d k : ℕ) → d ≤ 0 → small_key d k ≡ true
unfolding small_key
small_done zero k h = refl
small_done (suc d) k h = absurd (omega arith)

pub small-over : (d k : ℕ) → 0 < d → 8 < k % 32 → small_key d k ≡ false
unfolding small_key
small-over zero k h l = absurd (omega arith)
small-over (suc d) k h l = ap (λ t. t && small_key d (k / 32)) (le-ltb (k % 32) 9 (omega arith))

pub small-next : (d k : ℕ) → 0 < d → k % 32 ≤ 8 → small_key d k ≡ small_key (d - 1) (k / 32)
unfolding small_key
small-next zero k h l = absurd (omega arith)
small-next (suc d) k h l = let e : suc d - 1 ≡ d = omega arith in ap (λ t. t && small_key d (k / 32)) (lt-ltb (k % 32) 9 (omega arith)) ∙ ap (λ n. small_key n (k / 32)) (sym e)

small_cons : (n : ℕ) (m : Monomial) (ms : List Monomial) → small_terms n (m ∷ ms) ≡ (ltb (magnitude m.times) (2 ^ 27) && small_key n m.key) && small_terms n ms
unfolding small_terms
small_cons n m ms = refl

abbrev pub small_term : Term → Bool
small_term t = ltb (magnitude t.coefficient) (2 ^ 27) && small_key 4 t.key

small_none : (n : ℕ) → small_terms n [] ≡ true
unfolding small_terms
small_none n = refl

module _ {F : Type 0} (g : Mut F (Term × Unit {0}) Bool) (answers : (p : F) (x : Term) (r : Bool) (q : F) → Called g p (x, tt) r q → r ≡ small_term x) where
  all_asked : (s : List Monomial) (xs : List Term) (o : Option Term) (f f' : F) (u : List Monomial) (r : Bool) → YieldsThen (YieldsFirstBy monomial_in (λ rest. rest)) s xs o u →
      FoldsTo (λ p x q. Called g p (x, tt) true q) f xs f' → MatchOption o (r ≡ true) (λ x. (r ≡ false) × ((h : F) × Called g f' (x, tt) false h)) → r ≡ small_terms 4 s
  all_asked s [] None f f' u r y a l = l ∙ sym (ap (small_terms 4) (y.1 ∙ y.2.0) ∙ small_none 4)
  all_asked s [] (Some x) f f' u r y a l =
      l.0 ∙ sym (ap (small_terms 4) (y.1 ∙ y.2) ∙ small_cons 4 (monomial_in x) u ∙ ap (λ t. t && small_terms 4 u) (sym (answers f' x false l.1.0 l.1.1)))
  all_asked s (x ∷ xs) o f f' u r y a l =
      let next = y.1 in
      all_asked next.0 xs o a.0 f' u r (y.0, next.2, y.2) a.2 l ∙
      sym (ap (small_terms 4) next.1 ∙ small_cons 4 (monomial_in x) next.0 ∙ ap (λ t. t && small_terms 4 next.0) (sym (answers f x true a.0 a.1)))

-- `all` asks each monomial, or stops at the first that isn't small
pub all_small : {F : Type 0} {g : Mut F (Term × Unit {0}) Bool} {f : F} {u : List Monomial} (s : List Monomial) (r : Bool) → ChecksAll (YieldsFirstBy monomial_in (λ rest. rest)) g s f r u →
    ((p : F) (x : Term) (r : Bool) (q : F) → Called g p (x, tt) r q → r ≡ small_term x) → r ≡ small_terms 4 s
all_small {g = g} {f = f} {u = u} s r c answers = all_asked g answers s c.0 c.1 f c.2 u r c.3 c.4 c.5

digits-one : (m : Monomial) → last_digits (m ∷ []) ≡ m.key % 32 + 1
unfolding last_digits
digits-one m = refl

digits-two : (m k : Monomial) (ms : List Monomial) → last_digits (m ∷ k ∷ ms) ≡ cond (eqb (m.key / 32) (k.key / 32)) 0 (m.key % 32 + 1) + last_digits (k ∷ ms)
unfolding last_digits
digits-two m k ms = refl

pub digits_none : last_digits [] ≡ 0
unfolding last_digits
digits_none = refl

-- the first of a list, or none
abbrev pub Heads : Option Term → List Monomial → Type 0
Heads None ts = ts ≡ []
Heads (Some t) ts = (rest : List Monomial) × (ts ≡ monomial_in t ∷ rest)

-- the numbers of one more monomial, and of those from the next one on
pub digits-before : (m : Term) (next : Option Term) (ts : List Monomial) (n : ℕ) → Heads next ts →
    MatchOption next (n ≡ m.key % 32 + 1) (λ k. n ≡ cond (eqb (m.key / 32) (k.key / 32)) 0 (m.key % 32 + 1)) → n + last_digits ts ≡ last_digits (monomial_in m ∷ ts)
digits-before m None ts n h e =
    omega (arith, ap last_digits h, digits_none, e, ap (λ w. last_digits (monomial_in m ∷ w)) h, digits-one (monomial_in m))
digits-before m (Some k) ts n h e =
    ap₂ ◌+◌ e (ap last_digits h.1) ∙ sym (ap (λ w. last_digits (monomial_in m ∷ w)) h.1 ∙ digits-two (monomial_in m) (monomial_in k) h.0)

-- a key whose four digits are at most 8
key_bound : (k : ℕ) → k < 2 ^ 20 → T (small_key 4 k) → k < 2 ^ 19
unfolding small_key
key_bound k h t =
    let a = T-both (ltb (k % 32) 9) (small_key 3 (k / 32)) t in
    let b = T-both (ltb (k / 32 % 32) 9) (small_key 2 (k / 32 / 32)) a.1 in
    let c = T-both (ltb (k / 32 / 32 % 32) 9) (small_key 1 (k / 32 / 32 / 32)) b.1 in
    let d = T-both (ltb (k / 32 / 32 / 32 % 32) 9) (small_key 0 (k / 32 / 32 / 32 / 32)) c.1 in
    omega (arith, ltb→lt (k % 32) 9 a.0, ltb→lt (k / 32 % 32) 9 b.0, ltb→lt (k / 32 / 32 % 32) 9 c.0, ltb→lt (k / 32 / 32 / 32 % 32) 9 d.0)

pub modest-rising : (lo : ℕ) (ts : List Monomial) → Rising lo (2 ^ 20) ts → T (small_terms 4 ts) → Rising lo (2 ^ 19) ts
unfolding Rising
modest-rising lo [] r t = tt
modest-rising lo (m ∷ ms) r t =
    let u = subst T (small_cons 4 m ms) t in
    let a = T-both (ltb (magnitude m.times) (2 ^ 27) && small_key 4 m.key) (small_terms 4 ms) u in
    let b = T-both (ltb (magnitude m.times) (2 ^ 27)) (small_key 4 m.key) a.0 in
    (r.0, key_bound m.key r.1 b.1, r.2, modest-rising (suc m.key) ms r.3 a.1)

-- where keys rise there are at least as many numbers as monomials
numbers_enough : (lo hi : ℕ) (m : Monomial) (ms : List Monomial) → Rising lo hi (m ∷ ms) → length (m ∷ ms) + m.key % 32 ≤ last_digits (m ∷ ms)
unfolding Rising
numbers_enough lo hi m [] r = omega (arith, digits-one m)
numbers_enough lo hi m (k ∷ ms) r =
    let ih = numbers_enough (suc m.key) hi k ms r.3 in
    let up = r.3.0 in
    let e = digits-two m k ms in
    on_test (eqb (m.key / 32) (k.key / 32)) (λ t. last_digits (m ∷ k ∷ ms) ≡ cond t 0 (m.key % 32 + 1) + last_digits (k ∷ ms) → length (m ∷ k ∷ ms) + m.key % 32 ≤ last_digits (m ∷ k ∷ ms))
    (λ t q. let same = eqb→eq (m.key / 32) (k.key / 32) t in omega arith) (λ t q. omega arith) e

pub modest-short : (hi : ℕ) (ts : List Monomial) → Rising 0 hi ts → T (modest_terms 4 ts) → length ts ≤ 64
modest-short hi [] r t = omega arith
modest-short hi (m ∷ ms) r t =
    let b = T-both (small_terms 4 (m ∷ ms)) (leb (last_digits (m ∷ ms)) 64) t in
    omega (arith, numbers_enough 0 hi m ms r, leb→le (last_digits (m ∷ ms)) 64 b.1)
