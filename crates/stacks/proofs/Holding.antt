-- Slots hold polynomials, and so do their fronts. Assumes nothing.
use Rattle.std.proofs.Common.{◌≡◌, ℕ, suc, ◌+◌, ◌*◌, ◌<◌, min, ◌⊎◌, List, [], get_or, take, drop, ℤ, pos, sym, refl, ap, ◌∙◌, subst, inl, inr, eq-or-lt_of_le, arith}
use Rattle.std.proofs.lemmas.List.{get_or_past, get_or-replicate}
use Rattle.std.proofs.Math.ListN.{replicate, length-replicate}
use Rattle.question.specs.Cells.{small_of}
use Rattle.poly.specs.Poly.{Poly, End}
use Rattle.terms.specs.Monomial.{Monomial, flat, Rising}
use Rattle.terms.specs.Cells.{monomials_of}
use Rattle.terms.specs.Sizes.{SizesAtMost}
use Rattle.terms.proofs.Laws.{canon_laws}
use Rattle.terms.proofs.Tests.{by_less}
use Rattle.packed.specs.Stored.{Stored}
use Rattle.packed.proofs.Leading.{stored-take, take-monomials}
use Rattle.storage.specs.Denoting.{Denotes}
use Rattle.stacks.specs.Written.{Written, part}
use Rattle.stacks.specs.Slots.{slot_in}
use Rattle.stacks.specs.Spelt.{spelt}
use Rattle.stacks.specs.Memories.{Holds, AllHold, poly_of}
use Rattle.stacks.specs.SlotLaws.{SlotLaws}
use Rattle.stacks.proofs.Puts.{get_d_part}
use Rattle.stacks.proofs.Spelling.{spelt-flat, Front, front-is-flat}

spelt_is : (n : ℕ) (ts : List Monomial) (p : Poly) → Denotes n ts p → spelt n ts ≡ p
spelt_is n ts p d = ap (spelt n) d.monomials ∙ spelt-flat n p d.canon

holds : (n : ℕ) (zs : List ℤ) (p : Poly) → Stored zs → Denotes (suc n) (monomials_of zs) p → Holds n zs
holds n zs p s d = record { stored = s; denotes = subst (Denotes (suc n) (monomials_of zs)) (sym (spelt_is (suc n) (monomials_of zs) p d)) d }

front_holds : (n : ℕ) (zs : List ℤ) (count : ℕ) → Holds n zs → Holds n (take count zs)
unfolding Front
front_holds n zs count h =
    let (q, c, e) = front-is-flat (suc n) count (poly_of n zs) h.denotes.canon in
    holds n (take count zs) q (stored-take zs count h.stored)
    (record { canon = c; monomials = take-monomials zs count ∙ ap (take count) h.denotes.monomials ∙ e })

none_holds : (n : ℕ) → Holds n []
none_holds n =
    holds n [] End (record { rising = unfold monomials_of Rising in tt; sizes = unfold monomials_of SizesAtMost in tt; short = omega arith })
    (record { canon = canon_laws.Canon-zero_poly 9 (suc n); monomials = unfold monomials_of flat in refl })

written_holds : (n i : ℕ) (zs slots after : List ℤ) → AllHold n slots → Holds n zs → Written slot_in i zs slots after → AllHold n after
written_holds n i zs slots after all h w j =
    by_less j i (λ l. subst (Holds n) (sym (w.under j l)) (all j)) (λ l. at (eq-or-lt_of_le {n = i} {m = j} l))
  where
    at : (i ≡ j) ⊎ (i < j) → Holds n (slot_in after j)
    at (inl e) = subst (λ k. Holds n (slot_in after k)) e (subst (Holds n) (sym w.there) h)
    at (inr l) = subst (Holds n) (sym (w.over j l)) (all j)

pub slot_laws : SlotLaws
slot_laws = record { spelt_is = spelt_is; holds = holds; front_holds = front_holds; none_holds = none_holds; written_holds = written_holds }

-- nothing but zeros
pub zeros_hold : (len n : ℕ) → AllHold n (replicate len (pos 0))
zeros_hold len n i = subst (Holds n) (sym none) (none_holds n)
  where
    none : slot_in (replicate len (pos 0)) i ≡ []
    none =
        let zs = part 65 (65 * i) (replicate len (pos 0)) in
        let all : (k : ℕ) → get_or (replicate len (pos 0)) k (pos 0) ≡ pos 0 = λ k. by_less k len (get_or-replicate len k (pos 0) (pos 0)) (λ h. get_or_past (replicate len (pos 0)) k (pos 0) (omega (arith, length-replicate len (pos 0)))) in
        let e : get_or zs 0 (pos 0) ≡ pos 0 = get_d_part 65 (65 * i) 0 (replicate len (pos 0)) (omega arith) ∙ all (65 * i + 0) in
        ap (λ x. take (min (small_of x) 64) (drop 1 zs)) e
