-- The polynomial that is read in a slot. Assumes nothing.
use Rattle.std.proofs.Common.{◌≡◌, ℕ, ◌+◌, ◌*◌, ◌<◌, ◌≤◌, min, List, [], ◌∷◌, length, get_or, take, drop, ℤ, pos, ap, ◌∙◌, inl, inr, arith, length-drop, length-take, get_or-take, take_all}
use Rattle.std.proofs.lemmas.List.{ext_get_or, get_or-drop, length-take-le}
use Rattle.question.specs.Cells.{small_of}
use Rattle.stacks.specs.Written.{Put, Written, part}
use Rattle.stacks.specs.Slots.{slot_of, slot_in}
use Rattle.stacks.proofs.Puts.{get_d_part, length_part, part_apart}
use Rattle.stacks.proofs.Trips.{small_is}

-- no slot has more than 64 monomials, so the first 64 are all
pub all_of_slot : (cells : List ℤ) (i : ℕ) (front : List ℤ) → front ≡ take 64 (slot_in cells i) → (length front ≡ length (slot_in cells i)) × (length front ≤ 64)
all_of_slot cells i front e =
    let zs = part 65 (65 * i) cells in
    let f = length-take (min (small_of (get_or zs 0 (pos 0))) 64) (drop 1 zs) in
    let few : length (slot_in cells i) ≤ 64 = omega arith in
    let all = ap length (e ∙ take_all 64 (slot_in cells i) few) in (all, omega arith)

pub slot_written : (i : ℕ) (z : ℤ) (values before mid after : List ℤ) → z ≡ pos (length values) → length values ≤ 64 → 65 * i + 65 ≤ length before →
    Put (65 * i) (z ∷ []) before mid → Put (65 * i + 1) values mid after → Written slot_in i values before after
slot_written i z values before mid after e few room p q =
    record {
      long = q.long ∙ p.long;
      there = there;
      under = λ j h. ap slot_of (part_apart 65 (65 * i + 1) (65 * j) values mid after q (inl (omega arith)) ∙ part_apart 65 (65 * i) (65 * j) (z ∷ []) before mid p (inl (omega arith)));
      over = λ j h. ap slot_of (part_apart 65 (65 * i + 1) (65 * j) values mid after q (inr (omega arith)) ∙ part_apart 65 (65 * i) (65 * j) (z ∷ []) before mid p (inr (omega arith)));
    }
  where
    there : slot_of (part 65 (65 * i) after) ≡ values
    there =
        let zs = part 65 (65 * i) after in
        let head : get_or zs 0 (pos 0) ≡ z = get_d_part 65 (65 * i) 0 after (omega arith) ∙ q.under (65 * i + 0) (omega arith) ∙ p.there 0 (omega arith) in
        let c : small_of (get_or zs 0 (pos 0)) ≡ length values = small_is (length values) (get_or zs 0 (pos 0)) (omega arith) (head ∙ e) in
        let m : min (small_of (get_or zs 0 (pos 0))) 64 ≡ length values = omega arith in
        let l : length zs ≡ 65 = length_part 65 (65 * i) after (omega (arith, p.long, q.long)) in
        let d : length (drop 1 zs) ≡ 64 = length-drop 1 zs ∙ omega arith in
        let k : length (take (length values) (drop 1 zs)) ≡ length values = length-take-le (length values) (drop 1 zs) (omega arith) in
        ap (λ n. take n (drop 1 zs)) m ∙
        ext_get_or (pos 0) (take (length values) (drop 1 zs)) values k (λ j h.
        let hj : j < length values = omega arith in
        let r : 65 * i + (1 + j) ≡ 65 * i + 1 + j = omega arith in
        get_or-take (length values) (drop 1 zs) j (pos 0) hj ∙ get_or-drop 1 zs j (pos 0) ∙ get_d_part 65 (65 * i) (1 + j) after (omega arith) ∙
        ap (λ n. get_or after n (pos 0)) r ∙ q.there j hj)
