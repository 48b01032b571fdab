-- The marks after a polynomial is settled, or has lost its leading coefficient. Assumes nothing.
use Rattle.std.proofs.Common.{◌≡◌, ℕ, zero, suc, ◌+◌, ◌-◌, ◌^◌, ◌≤◌, min, Bool, true, false, cond, eqb, List, [], ◌∷◌, length, take, ℤ, sym, refl, ap, ◌∙◌, arith, length-take, take_all}
use native.Mathlib.Nat.{zero-div}
use Rattle.std.proofs.lemmas.List.{take-take}
use Rattle.field.specs.declared.sign.Sign.{Sign}
use Rattle.field.specs.declared.sign.Sign.TheVariants.{Neg, Zero, Pos}
use Rattle.poly.specs.Poly.{Poly, End}
use Rattle.poly.specs.Leading.{without_leading, degree}
use Rattle.terms.specs.Monomial.{Monomial}
use Rattle.terms.specs.Cells.{monomials_of}
use Rattle.terms.specs.LeadingTerms.{degree_terms, prefix_terms, last_key, count_below, leading_key}
use Rattle.packed.proofs.Leading.{take-monomials}
use Rattle.storage.proofs.Denoting.{denoting_laws}
use Rattle.sign_table.specs.Leadings as table
use Rattle.sign_table.specs.Leadings.{left_of}
use Rattle.machine.specs.Stacks.{Marked, less_one}
use Rattle.stacks.specs.declared.marks.Left.{Left}
use Rattle.stacks.specs.declared.marks.Marks.{Marks}
use Rattle.stacks.specs.Written.{Written}
use Rattle.stacks.specs.Values.{left_in}
use Rattle.stacks.specs.Slots.{slot_in}
use Rattle.stacks.specs.Spelt.{spelt}
use Rattle.stacks.specs.Memories.{Cells, AllHold, poly_of, front_poly, left_from, left_with, marks_from}
use Rattle.stacks.proofs.Holding.{slot_laws}
use Rattle.table_machine.specs.Told.{front_terms}
use Rattle.table_machine.specs.Settling.{Settles, next_marks, shorter_marks, left_count}
use Rattle.table_machine.proofs.Telling.{front-denotes}

pub less_one-is : (k : ℕ) → k - 1 ≡ less_one k
less_one-is zero = omega arith
less_one-is (suc k) = omega arith

take-length : (j : ℕ) (ts : List Monomial) → take (length (take j ts)) ts ≡ take j ts
take-length zero ts = refl
take-length (suc j) [] = refl
take-length (suc j) (m ∷ ts) = ap (λ l. m ∷ l) (take-length j ts)

-- fewer monomials of the front
shorter_terms : (n : ℕ) (slots : List ℤ) (i count : ℕ) → front_terms slots i (length (prefix_terms n (front_terms slots i count))) ≡ prefix_terms n (front_terms slots i count)
shorter_terms n slots i count =
    let all = monomials_of (slot_in slots i) in
    let ts = front_terms slots i count in
    let e : ts ≡ take count all = take-monomials (slot_in slots i) count in
    let j = count_below (leading_key n ts) ts in
    let k = length (take j ts) in
    let f = length-take j ts in
    let g : length ts ≡ min count (length all) = ap length e ∙ length-take count all in
    let l : k ≤ count = omega arith in
    take-monomials (slot_in slots i) k ∙ sym (take-take k count all l) ∙ ap (take k) (sym e) ∙ take-length j ts

pub shorter-poly : (n : ℕ) (slots : List ℤ) (i count : ℕ) → AllHold n slots →
    front_poly n slots i (length (prefix_terms n (front_terms slots i count))) ≡ without_leading (front_poly n slots i count)
shorter-poly n slots i count h =
    ap (spelt (suc n)) (shorter_terms n slots i count) ∙
    slot_laws.spelt_is (suc n) (prefix_terms n (front_terms slots i count)) (without_leading (front_poly n slots i count))
    (denoting_laws.without_leading_denotes n (front_terms slots i count) (front_poly n slots i count) (front-denotes n slots i count h))

pub settles_zero : (n : ℕ) (c : Cells) (m : Marks) (s : Sign) (r : Marks) → AllHold n c.slots → s ≡ Zero → r ≡ shorter_marks n c.slots m → Settles n c m s c.lefts r
settles_zero n c m Neg r h z e = absurd (cc)
settles_zero n c m Pos r h z e = absurd (cc)
settles_zero n c m Zero r h z e =
    let looks = less_one-is m.looks in
    let current = shorter-poly n c.slots (m.base + m.done) m.count h in
    record {
      next = End;
      marks = ap (marks_from n c.slots) e ∙ (λ i. Marked (looks i) m.base m.done m.ahead (current i) m.facts m.frames);
      written = λ trees facts questions. tt;
      kept = λ i l. refl;
    }

-- a polynomial of degree 0 or more
no_terms : (n : ℕ) (slots : List ℤ) (i : ℕ) → eqb (degree_terms n (front_terms slots i 0)) 0 ≡ true
no_terms n slots i = unfold monomials_of last_key in ap (λ d. eqb d 0) (zero-div (32 ^ n))

left_settled : (n : ℕ) (slots : List ℤ) (i count : ℕ) (s : Sign) → AllHold n slots →
    left_from n slots i (record { count = cond (eqb (degree_terms n (front_terms slots i count)) 0) 0 count; sign = s }) ≡ left_of (front_poly n slots i count) s
left_settled n slots i count s h =
    let d : degree_terms n (front_terms slots i count) ≡ degree (front_poly n slots i count) = denoting_laws.degree_is n (front_terms slots i count) (front_poly n slots i count) (front-denotes n slots i count h) in
    by count (eqb (degree_terms n (front_terms slots i count)) 0) refl ∙ ap (λ k. cond (eqb k 0) (table.Plain s) (table.Real (front_poly n slots i count) s)) d
  where
    by : (count : ℕ) (b : Bool) → eqb (degree_terms n (front_terms slots i count)) 0 ≡ b →
        left_with (cond b 0 count) (front_poly n slots i (cond b 0 count)) s ≡ cond b (table.Plain s) (table.Real (front_poly n slots i count) s)
    by count true e = refl
    by zero false e = let z = no_terms n slots i in cc
    by (suc k) false e = refl

pub settles-passed : (n : ℕ) (c : Cells) (m : Marks) (s : Sign) (left : Left) (lefts : List ℤ) (r : Marks) → AllHold n c.slots → (s ≡ Zero → ⊥) →
    left ≡ record { count = left_count n c.slots m; sign = s } → Written left_in (m.base + m.done) left c.lefts lefts → r ≡ next_marks c.slots m → Settles n c m s lefts r
settles-passed n c m s left lefts r h z e w q = by s z e
  where
    p : Poly
    p = poly_of n (slot_in c.slots (m.base + suc m.done))

    marks : marks_from n c.slots r ≡ Marked (less_one m.looks) m.base (suc m.done) (less_one m.ahead) (poly_of n (slot_in c.slots (m.base + suc m.done))) m.facts m.frames
    marks =
        let looks = less_one-is m.looks in
        let ahead = less_one-is m.ahead in
        let done : m.done + 1 ≡ suc m.done = omega arith in
        let slot = slot_in c.slots (m.base + (m.done + 1)) in
        let whole : take (length slot) slot ≡ slot = take_all (length slot) slot (omega arith) in
        let current : front_poly n c.slots (m.base + (m.done + 1)) (length slot) ≡ poly_of n (slot_in c.slots (m.base + suc m.done)) =
        ap (poly_of n) whole ∙ ap (λ k. poly_of n (slot_in c.slots (m.base + k))) done in
        ap (marks_from n c.slots) q ∙ (λ i. Marked (looks i) m.base (done i) (ahead i) (current i) m.facts m.frames)

    here : (s : Sign) → left ≡ record { count = left_count n c.slots m; sign = s } →
        left_from n c.slots (m.base + m.done) (left_in lefts (m.base + m.done)) ≡ left_of (front_poly n c.slots (m.base + m.done) m.count) s
    here s e = ap (left_from n c.slots (m.base + m.done)) (w.there ∙ e) ∙ left_settled n c.slots (m.base + m.done) m.count s h

    by : (s : Sign) → (s ≡ Zero → ⊥) → left ≡ record { count = left_count n c.slots m; sign = s } → Settles n c m s lefts r
    by Neg z e = record { next = poly_of n (slot_in c.slots (m.base + suc m.done)); marks = marks; written = λ trees facts questions. (here Neg e, λ l. refl); kept = w.under }
    by Pos z e = record { next = poly_of n (slot_in c.slots (m.base + suc m.done)); marks = marks; written = λ trees facts questions. (here Pos e, λ l. refl); kept = w.under }
    by Zero z e = absurd (z refl)
