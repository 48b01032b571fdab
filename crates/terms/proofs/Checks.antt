-- A modest polynomial, one that a term gives, and a remainder have at most nine coefficients in each list. Assumes nothing.
use Rattle.std.proofs.Common.{◌≡◌, ℕ, zero, suc, ◌+◌, Bool, true, false, cond, T, ltb, leb, List, [], ◌∷◌, length, refl, subst, arith, leb→le}
use Rattle.field.specs.declared.sign.Sign.{Sign}
use Rattle.field.specs.declared.sign.Sign.TheVariants.{Neg, Zero, Pos}
use Rattle.field.specs.Sentence.{Term, Var, Num, Sum, Product}
use Rattle.poly.specs.Poly.{Poly, coefs}
use Rattle.poly.specs.Arithmetic.{constant, variable, sum, product}
use Rattle.poly.specs.Modest.{every_by, small, number_count, modest, Checked, TooBig, Fine, checked, on_both, term_poly}
use Rattle.poly.specs.Division.{division_step, Division, divide, odd, exchanged, remainder}
use Rattle.terms.specs.Canon.{AllOf, Canon}
use Rattle.terms.proofs.Tests.{T-both}
use Rattle.terms.proofs.Canons.{Canon-constant, Canon-variable, Canon-sum, Canon-product, Canon-negative, Canon-division_step}

all_small : (P Q : Poly → Type 0) (f : Poly → Bool) → ((c : Poly) → P c → T (f c) → Q c) → (cs : List Poly) → AllOf P cs → T (every_by f cs) → AllOf Q cs
unfolding AllOf every_by
all_small P Q f h [] d t = tt
all_small P Q f h (c ∷ cs) d t = let (a, s) = T-both (f c) (every_by f cs) t in (h c d.0 a, all_small P Q f h cs d.1 s)

pub Canon-small : (b n : ℕ) (p : Poly) → Canon b n p → T (small n p) → Canon 9 n p
unfolding Canon small
Canon-small b zero p d t = d
Canon-small b (suc n) p d t =
    let (l, e) = T-both (leb (length (coefs p)) 9) (every_by (small n) (coefs p)) t in
    (d.0, leb→le (length (coefs p)) 9 l, d.2, all_small (Canon b n) (Canon 9 n) (small n) (Canon-small b n) (coefs p) d.3 e)

pub Canon-modest : (b n : ℕ) (p : Poly) → Canon b n p → T (modest n p) → Canon 9 n p
Canon-modest b n p d t = Canon-small b n p d (T-both (small n p) (leb (number_count n p) 64) t).0

never_fine : {A : Type 0} (p : Poly) → TooBig ≡ Fine p → A
never_fine p e = let z : ◌≡◌ {A = ℕ} 0 1 = cc in absurd (omega arith)

Canon-checked : (b n : ℕ) (q p : Poly) → Canon b n q → checked n q ≡ Fine p → Canon 9 n p
Canon-checked b n q p d = fine (modest n q) (Canon-modest b n q d)
  where
    fine : (m : Bool) → (T m → Canon 9 n q) → cond m (Fine q) TooBig ≡ Fine p → Canon 9 n p
    fine true h e = subst (Canon 9 n) (cc) (h tt)
    fine false h e = never_fine p e

Canon-both : (b n : ℕ) (op : Poly → Poly → Poly) → ((p q : Poly) → Canon 9 n p → Canon 9 n q → Canon b n (op p q)) → (x y : Checked) →
    ((p : Poly) → x ≡ Fine p → Canon 9 n p) → ((q : Poly) → y ≡ Fine q → Canon 9 n q) → (r : Poly) → on_both (λ p q. checked n (op p q)) x y ≡ Fine r → Canon 9 n r
Canon-both b n op h TooBig y hx hy r e = never_fine r e
Canon-both b n op h (Fine p) TooBig hx hy r e = never_fine r e
Canon-both b n op h (Fine p) (Fine q) hx hy r e = Canon-checked b n (op p q) r (h p q (hx p refl) (hy q refl)) e

pub Canon-term : (n : ℕ) (t : Term) (p : Poly) → term_poly n t ≡ Fine p → Canon 9 n p
unfolding term_poly
Canon-term n (Var i) p e = Canon-checked 2 n (variable n i) p (Canon-variable 2 n i (omega arith)) e
Canon-term n (Num z) p e = Canon-checked 1 n (constant n z) p (Canon-constant 1 n z (omega arith)) e
Canon-term n (Sum s t) p e = Canon-both 9 n (sum n) (Canon-sum 9 n) (term_poly n s) (term_poly n t) (Canon-term n s) (Canon-term n t) p e
Canon-term n (Product s t) p e = Canon-both 17 n (product n) (Canon-product 9 8 n) (term_poly n s) (term_poly n t) (Canon-term n s) (Canon-term n t) p e

pub Canon-divide : (fuel n : ℕ) (p s : Poly) (k : ℕ) → Canon 9 (suc n) p → Canon 9 (suc n) s → Canon 9 (suc n) (divide fuel n p s k).rest
unfolding divide
Canon-divide zero n p s k d h = h
Canon-divide (suc fuel) n p s k d h =
    let r = division_step n p s in
    stops (ltb (length (coefs s)) (length (coefs p))) (modest (suc n) r) (λ t. Canon-divide fuel n p r (k + 1) d (Canon-modest 17 (suc n) r (Canon-division_step 8 n p s d h) t))
  where
    stops : (b m : Bool) → (T m → Canon 9 (suc n) (divide fuel n p (division_step n p s) (k + 1)).rest) → Canon 9 (suc n) (elim b as (λ _. Division) [ true ↦ record { good = true; steps = k; rest = s } | false ↦ elim m [ true ↦ divide fuel n p (division_step n p s) (k + 1) | false ↦ record { good = false; steps = k; rest = s } ] ]).rest
    stops true m g = h
    stops false true g = g tt
    stops false false g = h

pub Canon-exchanged : (b n : ℕ) (c : Bool) (h : Sign) (r : Poly) → Canon b (suc n) r → Canon b (suc n) (exchanged n c h r)
Canon-exchanged b n true Neg r d = Canon-negative b (suc n) r d
Canon-exchanged b n true Zero r d = d
Canon-exchanged b n true Pos r d = d
Canon-exchanged b n false h r d = d

pub Canon-remainder : (n : ℕ) (h : Sign) (p s r : Poly) → Canon 9 (suc n) p → Canon 9 (suc n) s → remainder n h p s ≡ Fine r → Canon 9 (suc n) r
Canon-remainder n h p s r d k =
    let v = divide (length (coefs s) + 1) n p s 0 in
    kept v.good (exchanged n (odd v.steps) h v.rest) (Canon-exchanged 9 n (odd v.steps) h v.rest (Canon-divide (length (coefs s) + 1) n p s 0 d k))
  where
    kept : (b : Bool) (q : Poly) → Canon 9 (suc n) q → (elim b as (λ _. Checked) [ true ↦ Fine q | false ↦ TooBig ]) ≡ Fine r → Canon 9 (suc n) r
    kept true q g e = subst (Canon 9 (suc n)) (cc) g
    kept false q g e = never_fine r e
