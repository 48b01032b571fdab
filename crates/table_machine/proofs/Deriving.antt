-- A derivative that is packed in an arena and then written to a slot. Assumes nothing.
use Rattle.std.proofs.Common.{◌≡◌, ℕ, suc, ◌+◌, ◌<◌, ◌≤◌, true, false, List, [], ◌∷◌, length, take, drop, ℤ, sym, refl, ap, ◌∙◌, subst, arith}
use Rattle.std.proofs.lemmas.List.{take-take, take_at, drop_at, drop-take, length-take-le}
use Rattle.arena.specs.Growth.{Grown}
use Rattle.poly.specs.Leading.{derivative}
use Rattle.poly.specs.Modest.{modest}
use Rattle.terms.specs.Monomial.{Monomial}
use Rattle.terms.specs.Cells.{cells_of, monomials_of}
use Rattle.terms.specs.LeadingTerms.{derivative_terms}
use Rattle.terms.specs.ModestTerms.{modest_terms}
use Rattle.storage.specs.Storing.{Packed}
use Rattle.storage.specs.Denoting.{Denotes, Checks}
use Rattle.storage.proofs.Denoting.{denoting_laws}
use Rattle.stacks.specs.Written.{Written}
use Rattle.stacks.specs.Slots.{slot_in}
use Rattle.stacks.specs.Memories.{AllHold, front_poly}
use Rattle.stacks.proofs.Holding.{slot_laws}
use Rattle.table_machine.specs.Told.{front_terms}
use Rattle.table_machine.specs.Derived.{Derives}
use Rattle.table_machine.specs.Loading.{Loaded}
use Rattle.packed.specs.Stored.{Stored}
use Rattle.table_machine.proofs.Telling.{front-denotes}

pub pushed-part : (new cells after : List ℤ) (top top' len : ℕ) → Grown new top cells top' after → len ≡ length new → top ≤ length cells → take len (drop top after) ≡ new
pushed-part new cells after top top' len g e h =
    let t : top' ≡ top + len = g.higher ∙ ap (λ k. top + k) (sym e) in
    sym (drop-take top len after) ∙ ap (drop top) (ap (λ k. take k after) (sym t) ∙ g.stands) ∙ drop_at (take top cells) new top (length-take-le top cells h)

pub below-kept : (new cells after : List ℤ) (top top' : ℕ) → Grown new top cells top' after → top ≤ length cells → take top after ≡ take top cells
below-kept new cells after top top' g h =
    let l : top ≤ top' = omega (arith, g.higher) in
    sym (take-take top top' after l) ∙ ap (take top) g.stands ∙ take_at (take top cells) new top (length-take-le top cells h)

checks : (n : ℕ) (slots : List ℤ) (slot count : ℕ) → n < 4 → AllHold n slots → Checks (suc n) (derivative_terms n (front_terms slots slot count)) (derivative n (front_poly n slots slot count))
checks n slots slot count l h = denoting_laws.derivative_checks n (front_terms slots slot count) (front_poly n slots slot count) l (front-denotes n slots slot count h)

pub derived : (n : ℕ) (slots : List ℤ) (slot count to : ℕ) (after : List ℤ) (ts : List Monomial) (len top : ℕ) (cells : List ℤ) (top' : ℕ) (packed vals : List ℤ) → n < 4 → AllHold n slots →
    ts ≡ derivative_terms n (front_terms slots slot count) → Packed len ts top cells top' packed → top ≤ length cells → vals ≡ take len (drop top packed) →
    Written slot_in to vals slots after → length (cells_of ts) ≡ length ts → Derives n slots slot count to after
derived n slots slot count to after ts len top cells top' packed vals l h e p r v w q =
    let k = checks n slots slot count l h in
    let d = derivative n (front_poly n slots slot count) in
    let m : modest_terms 4 (derivative_terms n (front_terms slots slot count)) ≡ true = ap (modest_terms 4) (sym e) ∙ p.modest in
    let is : vals ≡ cells_of ts = v ∙ pushed-part (cells_of ts) cells packed top top' len p.grown (p.counted ∙ sym q) r in
    let denotes : Denotes (suc n) (monomials_of (cells_of ts)) d = subst (λ us. Denotes (suc n) us d) (sym (p.back ∙ e)) (k.kept m) in
    record {
      cells = cells_of ts;
      holds = slot_laws.holds n (cells_of ts) d p.good denotes;
      is = slot_laws.spelt_is (suc n) (monomials_of (cells_of ts)) d denotes;
      modest_is = sym k.test ∙ m;
      written = subst (λ z. Written slot_in to z slots after) is w;
    }

pub not_derived : (n : ℕ) (slots : List ℤ) (slot count : ℕ) (ts : List Monomial) → n < 4 → AllHold n slots → ts ≡ derivative_terms n (front_terms slots slot count) → modest_terms 4 ts ≡ false →
    modest (suc n) (derivative n (front_poly n slots slot count)) ≡ false
not_derived n slots slot count ts l h e m = sym (checks n slots slot count l h).test ∙ ap (modest_terms 4) (sym e) ∙ m

pub length-cells : (ts : List Monomial) → length (cells_of ts) ≡ length ts
unfolding cells_of
length-cells [] = refl
length-cells (m ∷ ms) = ap suc (length-cells ms)

-- monomials of a slot that were pushed
pub pushed-loaded : (slots : List ℤ) (slot count : ℕ) (new : List ℤ) (from top : ℕ) (cells : List ℤ) (top' : ℕ) (after : List ℤ) → Stored (take count (slot_in slots slot)) → from ≡ top →
    new ≡ take count (slot_in slots slot) → top ≤ length cells → Grown new top cells top' after → Loaded slots slot count (record { from = from; count = length new }) top cells top' after
pushed-loaded slots slot count new from top cells top' after h f e r g =
    let same : take (length new) (drop from after) ≡ new = ap (λ k. take (length new) (drop k after)) f ∙ pushed-part new cells after top top' (length new) g refl r in
    record {
      holds = record { below = omega (arith, g.higher); good = subst Stored (sym (same ∙ e)) h };
      same = same ∙ e;
      below = below-kept new cells after top top' g r;
      long = g.long;
      above = omega (arith, g.higher);
    }
