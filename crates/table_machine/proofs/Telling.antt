-- What facts tell, by the monomials of what they are about. Assumes nothing.
use denote.Param.Members.{Mut, Called}
use Rattle.std.specs.Iterator.Runs.{Run, CallKeepsClosure, AllItemsGive, IsFirstToGive, IsIdenticalRun, ItemsCountDown}
use Rattle.std.proofs.Common.{◌≡◌, ℕ, zero, suc, ◌+◌, ◌-◌, ◌<◌, ◌≤◌, Bool, true, false, List, [], ◌∷◌, length, take, ℤ, Option, Some, None, add-zero, MatchOption, IfSome, IsSomeAnd, IsTrue, option_map, sym, refl, ap, ◌∙◌, subst, ap₂, arith}
use Rattle.field.specs.declared.sign.Sign.{Sign}
use Rattle.field.specs.declared.sign.Sign.TheVariants.{Zero}
use Rattle.field.specs.Sign.{flip, sign_of}
use Rattle.poly.specs.Poly.{Poly, is_zero}
use Rattle.poly.specs.Arithmetic.{negative, same}
use Rattle.poly.specs.Leading.{leading}
use Rattle.terms.specs.Monomial.{Monomial}
use Rattle.terms.specs.Operations.{same_terms, neg_terms, number_terms, is_zero_terms}
use Rattle.terms.proofs.Laws.{flat_laws}
use Rattle.packed.specs.Stored.{Stored}
use Rattle.storage.specs.Denoting.{Denotes}
use Rattle.storage.proofs.Denoting.{denoting_laws}
use Rattle.sign_table.specs.Facts as table
use Rattle.sign_table.specs.Facts.{Known, Unknown, Is, known, among}
use Rattle.machine.specs.Stacks.{back}
use Rattle.stacks.specs.declared.marks.Fact.{Fact}
use Rattle.stacks.specs.Slots.{slot_in}
use Rattle.stacks.specs.Memories.{AllHold, front_poly, fact_from}
use Rattle.stacks.proofs.Holding.{slot_laws}
use Rattle.table_machine.specs.Told.{known_of, told_by, front_terms, leading_front}

pub front-denotes : (n : ℕ) (slots : List ℤ) (i count : ℕ) → AllHold n slots → Denotes (suc n) (front_terms slots i count) (front_poly n slots i count)
front-denotes n slots i count h = (slot_laws.front_holds n (slot_in slots i) count (h i)).denotes

-- where every slot holds a polynomial, of however many variables, its first monomials are stored
pub front_stored : (slots : List ℤ) (i count : ℕ) → (n : ℕ) × AllHold n slots → Stored (take count (slot_in slots i))
front_stored slots i count (n, h) = (slot_laws.front_holds n (slot_in slots i) count (h i)).stored

pub leading_denotes : (n : ℕ) (slots : List ℤ) (i count : ℕ) → AllHold n slots → Denotes n (leading_front n slots i count) (leading n (front_poly n slots i count))
leading_denotes n slots i count h = denoting_laws.leading_denotes n (front_terms slots i count) (front_poly n slots i count) (front-denotes n slots i count h)

abbrev or_else : Known → Known → Known
or_else (Is s) k = Is s
or_else Unknown k = k

among_more : (n : ℕ) (p : Poly) (f : ℕ → table.Fact) (k : ℕ) →
    among n p (back f (suc k)) ≡ or_else (told_by (same n p (f k).poly) (same n (negative n p) (f k).poly) (f k).sign) (among n p (back f k))
unfolding among back
among_more n p f k = by (same n p (f k).poly) (same n (negative n p) (f k).poly) (among n p (back f k))
  where
    by : (a b : Bool) (rest : Known) →
        (elim a as (λ _. Known) [ true ↦ Is (f k).sign | false ↦ elim b as (λ _. Known) [ true ↦ Is (flip (f k).sign) | false ↦ rest ] ]) ≡ or_else (told_by a b (f k).sign) rest
    by true b rest = refl
    by false true rest = refl
    by false false rest = refl

-- one fact, by its monomials
pub one_fact_more : (n : ℕ) (slots : List ℤ) (i count k : ℕ) (f : ℕ → Fact) → AllHold n slots →
    let ts = leading_front n slots i count in let us = leading_front n slots (f k).slot (f k).count in let p = leading n (front_poly n slots i count) in
    among n p (back (λ j. fact_from n slots (f j)) (suc k)) ≡ or_else (told_by (same_terms ts us) (same_terms (neg_terms ts) us) (f k).sign) (among n p (back (λ j. fact_from n slots (f j)) k))
one_fact_more n slots i count k f h =
    let p = leading n (front_poly n slots i count) in
    let q = leading n (front_poly n slots (f k).slot (f k).count) in
    let dp = leading_denotes n slots i count h in
    let dq = leading_denotes n slots (f k).slot (f k).count h in
    let rest = among n p (back (λ j. fact_from n slots (f j)) k) in
    among_more n p (λ j. fact_from n slots (f j)) k ∙
    ap₂ (λ a b. or_else (told_by a b (f k).sign) rest) (sym (denoting_laws.same_is n (leading_front n slots i count) (leading_front n slots (f k).slot (f k).count) p q dp dq))
    (sym (denoting_laws.same_negative_is n (leading_front n slots i count) (leading_front n slots (f k).slot (f k).count) p q dp dq))

pub no_facts : (n : ℕ) (p : Poly) (f : ℕ → table.Fact) → Unknown ≡ among n p (back f 0)
unfolding among back
no_facts n p f = refl

pub known-number : (n : ℕ) (slots : List ℤ) (i count : ℕ) (fs : List table.Fact) (ts : List Monomial) (s : Sign) → AllHold n slots → n ≡ 0 → ts ≡ leading_front n slots i count →
    s ≡ sign_of (number_terms ts) → Is s ≡ known n (leading n (front_poly n slots i count)) fs
known-number n slots i count fs ts s h e q r =
    let p = leading n (front_poly n slots i count) in
    let d = leading_denotes n slots i count h in
    at n e p (subst (λ us. Denotes n us p) (sym q) d)
  where
    at : (n : ℕ) → n ≡ 0 → (p : Poly) → Denotes n ts p → Is s ≡ known n p fs
    at zero z p d = ap Is (r ∙ ap sign_of (ap number_terms d.monomials ∙ sym (flat_laws.flat_number p)))
    at (suc n) z p d = absurd (omega arith)

known_some : (n : ℕ) (p : Poly) (fs : List table.Fact) (b : Bool) → 0 < n → is_zero p ≡ b → known n p fs ≡ (elim b as (λ _. Known) [ true ↦ Is Zero | false ↦ among n p fs ])
known_some zero p fs b l e = absurd (omega arith)
known_some (suc n) p fs b l e = ap (λ b. elim b as (λ _. Known) [ true ↦ Is Zero | false ↦ among (suc n) p fs ]) e

pub known_zero_lem : (n : ℕ) (slots : List ℤ) (i count : ℕ) (fs : List table.Fact) (ts : List Monomial) → AllHold n slots → 0 < n → ts ≡ leading_front n slots i count → length ts ≡ 0 →
    Is Zero ≡ known n (leading n (front_poly n slots i count)) fs
known_zero_lem n slots i count fs ts h l q z =
    let d = leading_denotes n slots i count h in
    sym (known_some n _ fs true l (sym (denoting_laws.zero_is n (leading_front n slots i count) _ d) ∙ ap is_zero_terms (sym q) ∙ nil ts z))
  where
    nil : (ts : List Monomial) → length ts ≡ 0 → is_zero_terms ts ≡ true
    nil [] e = refl
    nil (m ∷ ms) e = absurd (omega arith)

pub known_among : (n : ℕ) (slots : List ℤ) (i count : ℕ) (fs : List table.Fact) (ts : List Monomial) → AllHold n slots → 0 < n → ts ≡ leading_front n slots i count → (length ts ≡ 0 → ⊥) →
    among n (leading n (front_poly n slots i count)) fs ≡ known n (leading n (front_poly n slots i count)) fs
known_among n slots i count fs ts h l q z =
    let d = leading_denotes n slots i count h in
    sym (known_some n _ fs false l (sym (denoting_laws.zero_is n (leading_front n slots i count) _ d) ∙ ap is_zero_terms (sym q) ∙ some ts z))
  where
    some : (ts : List Monomial) → (length ts ≡ 0 → ⊥) → is_zero_terms ts ≡ false
    some [] e = absurd (e refl)
    some (m ∷ ms) e = refl

-- `told k` is what fact k tells
module _ (n : ℕ) (p : Poly) (f : ℕ → table.Fact) (told : ℕ → Known) (more : (k : ℕ) → among n p (back f (suc k)) ≡ or_else (told k) (among n p (back f k))) where
  -- facts that tell nothing are passed
  passed_facts : (d x : ℕ) → ((y : ℕ) → x ≤ y → y < x + d → Unknown ≡ told y) → among n p (back f (x + d)) ≡ among n p (back f x)
  passed_facts zero x u = ap (λ k. among n p (back f k)) (add-zero x)
  passed_facts (suc d) x u =
      let e : x + suc d ≡ suc (x + d) = omega arith in
      ap (λ k. among n p (back f k)) e ∙ more (x + d) ∙ ap (λ t. or_else t (among n p (back f (x + d)))) (sym (u (x + d) (omega arith) (omega arith)))
      ∙ passed_facts d x (λ y a b. u y a (omega (arith, b)))

  module _ {S F T : Type 0} {steps : S → Option ℕ → S → Type 0} {steps' : T → Option ℕ → T → Type 0} (run : Run steps) (source : Run steps') (g : Mut F (ℕ × Unit {0}) (Option Sign)) (c : F) (len : ℕ) where
    -- the first answer of a search from the last fact to the first
    pub first_told : (r : Option Sign) → CallKeepsClosure g c → ((x : ℕ) (o : Option Sign) → Called g c (x, tt) o c → known_of o ≡ told x) →
        IsIdenticalRun run source → ItemsCountDown source 0 len →
        MatchOption r (IsTrue run.whole × AllItemsGive run g c None) (λ y. (i : ℕ) × (i < run.len) × (run.len ≡ i + 1) × IsFirstToGive run g c (Some y) None i) →
        known_of r ≡ among n p (back f len)
    first_told r keeps says alike down found = by r found
      where
        whole_option : (o : Option ℕ) → option_map (λ y. y) o ≡ o
        whole_option None = refl
        whole_option (Some x) = refl

        place : (k : ℕ) → k < run.len → run.at k ≡ Some (len - 1 - k)
        place k l = sym (alike.0.2 k) ∙ sym (whole_option (source.at k)) ∙ down.3 k (omega (arith, alike.0.0, l))

        by : (r : Option Sign) → MatchOption r (IsTrue run.whole × AllItemsGive run g c None) (λ y. (i : ℕ) × (i < run.len) × (run.len ≡ i + 1) × IsFirstToGive run g c (Some y) None i) →
            known_of r ≡ among n p (back f len)
        by None h =
            let whole : len ≡ 0 + len = omega arith in
            let long : run.len ≡ len = omega (arith, alike.0.0, down.1 (alike.1 ∙ h.0)) in
            no_facts n p f ∙ sym (ap (λ k. among n p (back f k)) whole ∙ passed_facts len 0 (λ y a b.
            let k : len - 1 - (len - 1 - y) ≡ y = omega (arith, b) in
            says y None (subst (λ o. IfSome o (λ x. Called g c (x, tt) None c)) (place (len - 1 - y) (omega (arith, b, long)) ∙ ap Some k) (h.1 keeps (len - 1 - y)))))
        by (Some s) (i, l, e, first) =
            let short : run.len ≤ len = omega (arith, alike.0.0, down.0) in
            let x : ℕ = len - 1 - i in
            let answer : Is s ≡ told x = says x (Some s) (subst (λ o. IsSomeAnd o (λ x. Called g c (x, tt) (Some s) c)) (place i l) (first keeps).0) in
            let z : suc x + i ≡ len = omega (arith, short, e) in
            sym (ap (λ k. among n p (back f k)) (sym z) ∙ passed_facts i (suc x) (λ y a b.
            let j : len - 1 - (len - 1 - y) ≡ y = omega (arith, a, b, z) in
            says y None (subst (λ o. IsSomeAnd o (λ x. Called g c (x, tt) None c)) (place (len - 1 - y) (omega (arith, a, b, z, e)) ∙ ap Some j) ((first keeps).1 (len - 1 - y) (omega (arith, a, b, z)))))
            ∙ more x ∙ ap (λ t. or_else t (among n p (back f x))) (sym answer))
