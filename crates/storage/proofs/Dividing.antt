-- A division of stored polynomials, a step at a time. Assumes nothing.
use Rattle.std.proofs.Common.{◌≡◌, ℕ, zero, suc, ◌+◌, ◌-◌, ◌/◌, ◌%◌, ◌^◌, ◌<◌, ◌≤◌, Bool, true, false, cond, ◌&&◌, eqb, ltb, leb, List, [], ◌∷◌, length, take, drop, ℤ, is_err, Ok, Err, Result, sym, refl, ap, ◌∙◌, subst, ap₂, arith, length-take-le, take-take, take_at, drop_at, le-ltb, lt-ltb, leb-false, leb-true}
use Rattle.std.proofs.lemmas.List.{drop-take}
use Rattle.poly.specs.Poly.{Poly, coefs}
use Rattle.poly.specs.Modest.{modest, Checked, TooBig, Fine}
use Rattle.poly.specs.Arithmetic.{negative}
use Rattle.poly.specs.Division.{Division, division_step, divide, odd, exchanged, remainder}
use Rattle.terms.specs.Monomial.{Monomial}
use Rattle.terms.specs.Operations.{neg_terms}
use Rattle.terms.specs.LeadingTerms.{length_terms}
use Rattle.terms.specs.DivisionTerms.{step_terms}
use Rattle.terms.specs.ModestTerms.{small_key, small_terms, last_digits, modest_terms}
use Rattle.terms.specs.Cells.{cells_of, monomials_of}
use Rattle.terms.proofs.Bounds.{size_neg}
use Rattle.packed.specs.Stored.{Stored}
use Rattle.arena.specs.Growth.{Grown, Kept}
use Rattle.field.specs.declared.sign.Sign.{Sign}
use Rattle.field.specs.declared.sign.Sign.TheVariants.{Neg, Zero, Pos}
use Rattle.storage.specs.declared.remainder.Quotient.{Quotient}
use Rattle.storage.specs.declared.span.Span.{Span}
use Rattle.storage.specs.Storing.{Packed}
use Rattle.storage.specs.Spans.{cells_at, terms_at, Holds}
use Rattle.storage.specs.Denoting.{Denotes}
use Rattle.storage.specs.Dividing.{Untouched, Dividing, Divided, Refused, divided, Remainder, NoRemainder, remains, exchanges_sign}
use Rattle.storage.proofs.Cells.{length-cells}
use Rattle.storage.proofs.Denoting.{denoting_laws}

abbrev pub span : ℕ → ℕ → Span
span from count = record { from = from; count = count }

span-kept : (s : Span) (mark : ℕ) (cells cells' : List ℤ) → s.from + s.count ≤ mark → take mark cells' ≡ take mark cells → cells_at s cells' ≡ cells_at s cells
span-kept s mark cells cells' h e =
    sym (drop-take s.from s.count cells') ∙
    ap (drop s.from) (sym (take-take (s.from + s.count) mark cells' h) ∙ ap (take (s.from + s.count)) e ∙ take-take (s.from + s.count) mark cells h) ∙
    drop-take s.from s.count cells

span-new : (new : List ℤ) (mark count : ℕ) (cells : List ℤ) (top' : ℕ) (cells' : List ℤ) → count ≡ length new → mark ≤ length cells → Grown new mark cells top' cells' →
    cells_at (span mark count) cells' ≡ new
span-new new mark count cells top' cells' c h g =
    let e : mark + count ≡ top' = omega (arith, g.higher, c) in
    sym (drop-take mark count cells') ∙ ap (λ n. drop mark (take n cells')) e ∙ ap (drop mark) g.stands ∙ drop_at (take mark cells) new mark (length-take-le mark cells h)

pub grown-untouched : (new : List ℤ) (mark : ℕ) (cells : List ℤ) (top' : ℕ) (cells' : List ℤ) → mark ≤ length cells → length new ≤ 64 → Grown new mark cells top' cells' → Untouched mark cells top' cells'
grown-untouched new mark cells top' cells' h few g =
    let up : mark ≤ top' = omega (arith, g.higher) in
    record {
      same = sym (take-take mark top' cells' up) ∙ ap (take mark) g.stands ∙ take_at (take mark cells) new mark (length-take-le mark cells h);
      long = g.long;
      above = up;
      most = omega (arith, g.higher);
    }

pub kept-untouched : (mark : ℕ) (cells : List ℤ) (top' : ℕ) (cells' : List ℤ) → Kept mark cells top' cells' → Untouched mark cells top' cells'
kept-untouched mark cells top' cells' k = record { same = ap (take mark) k.same_cells; long = ap length k.same_cells; above = omega (arith, k.same_top); most = omega (arith, k.same_top) }

pub untouched_on : (mark : ℕ) (cells : List ℤ) (top1 : ℕ) (cells1 : List ℤ) (top2 : ℕ) (cells2 : List ℤ) → Untouched mark cells top1 cells1 → Untouched mark cells1 top2 cells2 → Untouched mark cells top2 cells2
untouched_on mark cells top1 cells1 top2 cells2 u v = record { same = v.same ∙ u.same; long = v.long ∙ u.long; above = v.above; most = v.most }

pub terms_kept : (s : Span) (mark : ℕ) (cells : List ℤ) (top' : ℕ) (cells' : List ℤ) → Holds s mark cells → Untouched mark cells top' cells' → terms_at s cells' ≡ terms_at s cells
terms_kept s mark cells top' cells' h u = ap monomials_of (span-kept s mark cells cells' h.below u.same)

pub holds_kept : (s : Span) (mark : ℕ) (cells : List ℤ) (top' : ℕ) (cells' : List ℤ) → Holds s mark cells → Untouched mark cells top' cells' → Holds s top' cells'
holds_kept s mark cells top' cells' h u =
    record { below = omega (arith, h.below, u.above); good = subst Stored (sym (span-kept s mark cells cells' h.below u.same)) h.good }

pub terms_new : (count : ℕ) (ts : List Monomial) (mark : ℕ) (cells : List ℤ) (top' : ℕ) (cells' : List ℤ) → mark ≤ length cells → Packed count ts mark cells top' cells' → terms_at (span mark count) cells' ≡ ts
terms_new count ts mark cells top' cells' h p =
    ap monomials_of (span-new (cells_of ts) mark count cells top' cells' (p.counted ∙ sym (length-cells ts)) h p.grown) ∙ p.back

pub holds-new : (count : ℕ) (ts : List Monomial) (mark : ℕ) (cells : List ℤ) (top' : ℕ) (cells' : List ℤ) → mark ≤ length cells → Packed count ts mark cells top' cells' → Holds (span mark count) top' cells'
holds-new count ts mark cells top' cells' h p =
    record {
      below = omega (arith, p.grown.higher, p.counted, length-cells ts);
      good = subst Stored (sym (span-new (cells_of ts) mark count cells top' cells' (p.counted ∙ sym (length-cells ts)) h p.grown)) p.good;
    }

-- the definition of division by cases
divide_stop : (fuel n : ℕ) (p q : Poly) (k : ℕ) → ltb (length (coefs q)) (length (coefs p)) ≡ true → divide fuel n p q k ≡ record { good = true; steps = k; rest = q }
unfolding divide
divide_stop zero n p q k t = refl
divide_stop (suc fuel) n p q k t = rw (t, divide)

divide_none : (fuel n : ℕ) (p q : Poly) (k : ℕ) → fuel ≤ 0 → divide fuel n p q k ≡ record { good = true; steps = k; rest = q }
unfolding divide
divide_none zero n p q k h = refl
divide_none (suc fuel) n p q k h = absurd (omega arith)

by_step : (fuel n : ℕ) (p q : Poly) (k : ℕ) → Bool → Division
by_step fuel n p q k t = elim t [ true ↦ divide fuel n p (division_step n p q) (k + 1) | false ↦ record { good = false; steps = k; rest = q } ]

divide_by : (fuel n : ℕ) (p q : Poly) (k : ℕ) → ltb (length (coefs q)) (length (coefs p)) ≡ false → divide (suc fuel) n p q k ≡ by_step fuel n p q k (modest (suc n) (division_step n p q))
unfolding divide by_step
divide_by fuel n p q k t = rw (t, divide)

divide_on : (fuel n : ℕ) (p q : Poly) (k : ℕ) → 0 < fuel → ltb (length (coefs q)) (length (coefs p)) ≡ false → modest (suc n) (division_step n p q) ≡ true →
    divide fuel n p q k ≡ divide (fuel - 1) n p (division_step n p q) (k + 1)
unfolding by_step
divide_on zero n p q k h t m = absurd (omega arith)
divide_on (suc fuel) n p q k h t m =
    let e : suc fuel - 1 ≡ fuel = omega arith in
    divide_by fuel n p q k t ∙ ap (by_step fuel n p q k) m ∙ ap (λ f. divide f n p (division_step n p q) (k + 1)) (sym e)

divide_fails : (fuel n : ℕ) (p q : Poly) (k : ℕ) → 0 < fuel → ltb (length (coefs q)) (length (coefs p)) ≡ false → modest (suc n) (division_step n p q) ≡ false → (divide fuel n p q k).good ≡ false
unfolding by_step
divide_fails zero n p q k h t m = absurd (omega arith)
divide_fails (suc fuel) n p q k h t m = ap (λ d. d.good) (divide_by fuel n p q k t ∙ ap (by_step fuel n p q k) m)

module _ (n : ℕ) (ps ss : List Monomial) (mark : ℕ) (cells : List ℤ) (few : suc n ≤ 4) where
  module _ (fuel steps : ℕ) (rest : Span) (top1 : ℕ) (cells1 : List ℤ) (d : Dividing n ps ss mark cells (length_terms n ss + 1) fuel steps rest top1 cells1) where
    -- the division goes on where the divisor isn't longer
    goes : (p q : Poly) → Denotes (suc n) ps p → Denotes (suc n) (terms_at rest cells1) q → leb (length_terms n ps) (length_terms n (terms_at rest cells1)) ≡ true →
        ltb (length (coefs q)) (length (coefs p)) ≡ false
    goes p q dp dq t =
        le-ltb (length (coefs q)) (length (coefs p))
        (omega (arith, leb-true (length_terms n ps) (length_terms n (terms_at rest cells1)) t, denoting_laws.length_is n ps p dp, denoting_laws.length_is n (terms_at rest cells1) q dq))

    allowed_is : (s : Poly) → Denotes (suc n) ss s → length (coefs s) + 1 ≡ length_terms n ss + 1
    allowed_is s ds = ap (λ k. k + 1) (sym (denoting_laws.length_is n ss s ds))

    pub step : (count top2 : ℕ) (cells2 : List ℤ) → 0 < fuel → leb (length_terms n ps) (length_terms n (terms_at rest cells1)) ≡ true → mark ≤ length cells1 →
        Packed count (step_terms n ps (terms_at rest cells1)) mark cells1 top2 cells2 →
        Dividing n ps ss mark cells (length_terms n ss + 1) (fuel - 1) (steps + 1) (span mark count) top2 cells2
    step count top2 cells2 f t h k =
        let new = terms_new count (step_terms n ps (terms_at rest cells1)) mark cells1 top2 cells2 h k in
        record {
          means = λ p s dp ds.
              let was = d.means p s dp ds in
              let q = was.0 in
              let ch = denoting_laws.step_checks n ps (terms_at rest cells1) p q few dp was.1 in (
                division_step n p q,
                subst (λ ts. Denotes (suc n) ts (division_step n p q)) (sym new) (ch.kept k.modest),
                sym (divide_on fuel n p q steps f (goes p q dp was.1 t) (sym ch.test ∙ k.modest)) ∙ was.2,
              );
          holds = holds-new count (step_terms n ps (terms_at rest cells1)) mark cells1 top2 cells2 h k;
          untouched = untouched_on mark cells top1 cells1 top2 cells2 d.untouched (grown-untouched (cells_of (step_terms n ps (terms_at rest cells1))) mark cells1 top2 cells2 h k.good.short k.grown);
          modest = λ _. ap (modest_terms 4) new ∙ k.modest;
          counted = omega (arith, d.counted);
        }

    pub fails : (top2 : ℕ) (cells2 : List ℤ) → 0 < fuel → leb (length_terms n ps) (length_terms n (terms_at rest cells1)) ≡ true →
        modest_terms 4 (step_terms n ps (terms_at rest cells1)) ≡ false → Kept mark cells1 top2 cells2 → Refused n ps ss mark cells top2 cells2
    fails top2 cells2 f t m k =
        record {
          means = λ p s dp ds.
              let was = d.means p s dp ds in
              let q = was.0 in
              let ch = denoting_laws.step_checks n ps (terms_at rest cells1) p q few dp was.1 in
              ap (λ a. (divide a n p s 0).good) (allowed_is s ds) ∙ ap (λ x. x.good) (sym was.2) ∙
              divide_fails fuel n p q steps f (goes p q dp was.1 t) (sym ch.test ∙ m);
          untouched = untouched_on mark cells top1 cells1 top2 cells2 d.untouched (kept-untouched mark cells1 top2 cells2 k);
          back = k.same_top;
        }

    pub out_of_fuel : fuel ≤ 0 → Divided n ps ss mark cells steps rest top1 cells1
    out_of_fuel h =
        record {
          means = λ p s dp ds.
              let was = d.means p s dp ds in
              (was.0, was.1, ap (λ a. divide a n p s 0) (allowed_is s ds) ∙ sym was.2 ∙ divide_none fuel n p was.0 steps h);
          holds = d.holds;
          untouched = d.untouched;
          modest = d.modest;
        }

    pub ended : leb (length_terms n ps) (length_terms n (terms_at rest cells1)) ≡ false → Divided n ps ss mark cells steps rest top1 cells1
    ended t =
        record {
          means = λ p s dp ds.
              let was = d.means p s dp ds in
              let less : ltb (length (coefs was.0)) (length (coefs p)) ≡ true =
              lt-ltb (length (coefs was.0)) (length (coefs p))
              (omega (arith, leb-false (length_terms n ps) (length_terms n (terms_at rest cells1)) t, denoting_laws.length_is n ps p dp, denoting_laws.length_is n (terms_at rest cells1) was.0 was.1)) in
              (was.0, was.1, ap (λ a. divide a n p s 0) (allowed_is s ds) ∙ sym was.2 ∙ divide_stop fuel n p was.0 steps less);
          holds = d.holds;
          untouched = d.untouched;
          modest = d.modest;
        }

-- the negative of a modest list is modest
small-negated : (n : ℕ) (ts : List Monomial) → small_terms n (neg_terms ts) ≡ small_terms n ts
unfolding small_terms neg_terms
small-negated n [] = refl
small-negated n (m ∷ ms) = ap₂ (λ s t. (ltb s (2 ^ 27) && small_key n m.key) && t) (size_neg m.times) (small-negated n ms)

digits-negated : (ts : List Monomial) → last_digits (neg_terms ts) ≡ last_digits ts
unfolding last_digits neg_terms
digits-negated [] = refl
digits-negated (m ∷ []) = refl
digits-negated (m ∷ k ∷ ms) = ap (λ w. cond (eqb (m.key / 32) (k.key / 32)) 0 (m.key % 32 + 1) + w) (digits-negated (k ∷ ms))

pub modest-negated : (ts : List Monomial) → modest_terms 4 (neg_terms ts) ≡ modest_terms 4 ts
modest-negated ts = ap₂ (λ s d. s && leb d 64) (small-negated 4 ts) (digits-negated ts)

pub refused_result : {E : Type 0} (r : Result Quotient E) (n : ℕ) (ps ss : List Monomial) (mark : ℕ) (cells : List ℤ) (top' : ℕ) (cells' : List ℤ) → is_err r ≡ true →
    Refused n ps ss mark cells top' cells' → divided r n ps ss mark cells top' cells'
refused_result (Ok d) n ps ss mark cells top' cells' e f = absurd (let z : ◌≡◌ {A = ℕ} 0 1 = cc in omega arith)
refused_result (Err _) n ps ss mark cells top' cells' e f = f

pub no_remainder : {E : Type 0} (r : Result Span E) (n : ℕ) (h : Sign) (ps ss : List Monomial) (mark : ℕ) (cells : List ℤ) (top' : ℕ) (cells' : List ℤ) → is_err r ≡ true →
    NoRemainder n h ps ss mark cells top' cells' → remains r n h ps ss mark cells top' cells'
no_remainder (Ok d) n h ps ss mark cells top' cells' e f = absurd (let z : ◌≡◌ {A = ℕ} 0 1 = cc in omega arith)
no_remainder (Err _) n h ps ss mark cells top' cells' e f = f

-- the sign of the remainder
-- whether it is exchanged, by the parity of the steps
by_parity : Bool → Sign → Bool
by_parity t Neg = t
by_parity t Zero = false
by_parity t Pos = false

by_parity_lem : (k : ℕ) (h : Sign) → exchanges_sign k h ≡ by_parity (odd k) h
unfolding by_parity
by_parity_lem k Neg = refl
by_parity_lem k Zero = refl
by_parity_lem k Pos = refl

exchanged_on : (n : ℕ) (t : Bool) (h : Sign) (q : Poly) → exchanged n t h q ≡ cond (by_parity t h) (negative (suc n) q) q
unfolding by_parity
exchanged_on n true Neg q = refl
exchanged_on n true Zero q = refl
exchanged_on n true Pos q = refl
exchanged_on n false Neg q = refl
exchanged_on n false Zero q = refl
exchanged_on n false Pos q = refl

exchanged-is : (n k : ℕ) (h : Sign) (q : Poly) (t : Bool) → exchanges_sign k h ≡ t → exchanged n (odd k) h q ≡ cond t (negative (suc n) q) q
exchanged-is n k h q t e = exchanged_on n (odd k) h q ∙ ap (λ b. cond b (negative (suc n) q) q) (sym (by_parity_lem k h) ∙ e)

outcome : ℕ → Sign → Division → Checked
outcome n h d = elim d.good [ true ↦ Fine (exchanged n (odd d.steps) h d.rest) | false ↦ TooBig ]

remainder_by : (n : ℕ) (h : Sign) (p s : Poly) → remainder n h p s ≡ outcome n h (divide (length (coefs s) + 1) n p s 0)
unfolding outcome
remainder_by n h p s = refl

outcome_fine : (n : ℕ) (h : Sign) (k : ℕ) (q : Poly) → outcome n h (record { good = true; steps = k; rest = q }) ≡ Fine (exchanged n (odd k) h q)
unfolding outcome
outcome_fine n h k q = refl

-- the remainder is what is left
pub plain-remainder : (n : ℕ) (h : Sign) (ps ss : List Monomial) (mark : ℕ) (cells : List ℤ) (steps : ℕ) (rest : Span) (top' : ℕ) (cells' : List ℤ) → exchanges_sign steps h ≡ false →
    Divided n ps ss mark cells steps rest top' cells' → Remainder n h ps ss mark cells rest top' cells'
plain-remainder n h ps ss mark cells steps rest top' cells' t d =
    record {
      means = λ p s dp ds.
          let was = d.means p s dp ds in
          (was.0, was.1, remainder_by n h p s ∙ ap (outcome n h) was.2 ∙ outcome_fine n h steps was.0 ∙ ap Fine (exchanged-is n steps h was.0 false t));
      holds = d.holds;
      untouched = d.untouched;
    }

-- or its negative
pub exchanged-remainder : (n : ℕ) (h : Sign) (ps ss : List Monomial) (mark : ℕ) (cells : List ℤ) (steps : ℕ) (rest : Span) (top1 : ℕ) (cells1 : List ℤ) (count top2 : ℕ) (cells2 : List ℤ) →
    exchanges_sign steps h ≡ true → mark ≤ length cells1 → Divided n ps ss mark cells steps rest top1 cells1 → Packed count (neg_terms (terms_at rest cells1)) mark cells1 top2 cells2 →
    Remainder n h ps ss mark cells (span mark count) top2 cells2
exchanged-remainder n h ps ss mark cells steps rest top1 cells1 count top2 cells2 t l d k =
    let new = terms_new count (neg_terms (terms_at rest cells1)) mark cells1 top2 cells2 l k in
    record {
      means = λ p s dp ds.
          let was = d.means p s dp ds in (
            negative (suc n) was.0,
            subst (λ ts. Denotes (suc n) ts (negative (suc n) was.0)) (sym new) (denoting_laws.negative_denotes (suc n) (terms_at rest cells1) was.0 was.1),
            remainder_by n h p s ∙ ap (outcome n h) was.2 ∙ outcome_fine n h steps was.0 ∙ ap Fine (exchanged-is n steps h was.0 true t),
          );
      holds = holds-new count (neg_terms (terms_at rest cells1)) mark cells1 top2 cells2 l k;
      untouched = untouched_on mark cells top1 cells1 top2 cells2 d.untouched (grown-untouched (cells_of (neg_terms (terms_at rest cells1))) mark cells1 top2 cells2 l k.good.short k.grown);
    }

-- an exchanged sign comes after a step
pub exchanged-steps : (k : ℕ) (h : Sign) → exchanges_sign k h ≡ true → 0 < k
exchanged-steps zero Neg e = absurd (let z : ◌≡◌ {A = ℕ} 0 1 = cc in omega arith)
exchanged-steps zero Zero e = absurd (let z : ◌≡◌ {A = ℕ} 0 1 = cc in omega arith)
exchanged-steps zero Pos e = absurd (let z : ◌≡◌ {A = ℕ} 0 1 = cc in omega arith)
exchanged-steps (suc k) h e = omega arith

-- the same with the divisor read where it lies now
module _ (n : ℕ) (divisor : Span) (ss : List Monomial) (mark : ℕ) (cells : List ℤ) (few : suc n ≤ 4) (h : Holds divisor mark cells) (fuel steps : ℕ) (rest : Span) (top1 : ℕ) (cells1 : List ℤ)
    (d : Dividing n (terms_at divisor cells) ss mark cells (length_terms n ss + 1) fuel steps rest top1 cells1) where
  pub still : terms_at divisor cells1 ≡ terms_at divisor cells
  still = terms_kept divisor mark cells top1 cells1 h d.untouched

  test_still : (b : Bool) → b ≡ leb (length_terms n (terms_at divisor cells1)) (length_terms n (terms_at rest cells1)) → leb (length_terms n (terms_at divisor cells)) (length_terms n (terms_at rest cells1)) ≡ b
  test_still b t = ap (λ ts. leb (length_terms n ts) (length_terms n (terms_at rest cells1))) (sym still) ∙ sym t

  pub step_still : (count top2 : ℕ) (cells2 : List ℤ) → 0 < fuel → true ≡ leb (length_terms n (terms_at divisor cells1)) (length_terms n (terms_at rest cells1)) → mark ≤ length cells1 →
      Packed count (step_terms n (terms_at divisor cells1) (terms_at rest cells1)) mark cells1 top2 cells2 →
      Dividing n (terms_at divisor cells) ss mark cells (length_terms n ss + 1) (fuel - 1) (steps + 1) (span mark count) top2 cells2
  step_still count top2 cells2 f t l k =
      step n (terms_at divisor cells) ss mark cells few fuel steps rest top1 cells1 d count top2 cells2 f (test_still true t) l
      (subst (λ ts. Packed count (step_terms n ts (terms_at rest cells1)) mark cells1 top2 cells2) still k)

  pub fails_still : (top2 : ℕ) (cells2 : List ℤ) → 0 < fuel → true ≡ leb (length_terms n (terms_at divisor cells1)) (length_terms n (terms_at rest cells1)) →
      modest_terms 4 (step_terms n (terms_at divisor cells1) (terms_at rest cells1)) ≡ false → Kept mark cells1 top2 cells2 → Refused n (terms_at divisor cells) ss mark cells top2 cells2
  fails_still top2 cells2 f t m k =
      fails n (terms_at divisor cells) ss mark cells few fuel steps rest top1 cells1 d top2 cells2 f (test_still true t)
      (subst (λ ts. modest_terms 4 (step_terms n ts (terms_at rest cells1)) ≡ false) still m) k

  pub ended_still : false ≡ leb (length_terms n (terms_at divisor cells1)) (length_terms n (terms_at rest cells1)) → Divided n (terms_at divisor cells) ss mark cells steps rest top1 cells1
  ended_still t = ended n (terms_at divisor cells) ss mark cells few fuel steps rest top1 cells1 d (test_still false t)
