-- Numbers that are put one after the other, and what is read of the cells then. Assumes nothing.
use Rattle.std.proofs.Common.{◌≡◌, ℕ, suc, ◌+◌, ◌-◌, ◌*◌, ◌<◌, ◌≤◌, min, ◌⊎◌, List, length, get_or, drop, ℤ, pos, sym, ap, ◌∙◌, subst₂, inl, inr, mul-le-mul_left, mul-suc, arith, length-drop, length-take, get_or-take}
use borrow.Rule.Slice.PartMut.{put_mid}
use Rattle.std.proofs.lemmas.Grind.{common_steps}
use Rattle.std.proofs.lemmas.List.{ext_get_or, get_or-drop, length-take-le}
use Rattle.stacks.specs.Written.{Put, Written, part}
use Rattle.stacks.specs.Values.{value_in}

-- a number of a part
pub get_d_part : (w at d : ℕ) (cells : List ℤ) → d < w → get_or (part w at cells) d (pos 0) ≡ get_or cells (at + d) (pos 0)
get_d_part w at d cells h = get_or-take w (drop at cells) d (pos 0) h ∙ get_or-drop at cells d (pos 0)

pub length_part : (w at : ℕ) (cells : List ℤ) → at + w ≤ length cells → length (part w at cells) ≡ w
length_part w at cells h = let e = length-drop at cells in length-take-le w (drop at cells) (omega arith)

-- the part that was put
pub part-there : (w at : ℕ) (values before after : List ℤ) → length values ≡ w → at + w ≤ length before → Put at values before after → part w at after ≡ values
part-there w at values before after e room p =
    let l : length (part w at after) ≡ w = length_part w at after (omega (arith, p.long)) in
    ext_get_or (pos 0) (part w at after) values (l ∙ sym e) (λ d h. get_d_part w at d after (omega arith) ∙ p.there d (omega arith))

-- a part apart from it
pub part_apart : (w at from : ℕ) (values before after : List ℤ) → Put at values before after → (from + w ≤ at) ⊎ (at + length values ≤ from) →
    part w from after ≡ part w from before
part_apart w at from values before after p apart =
    let l : length (drop from after) ≡ length (drop from before) = length-drop from after ∙ ap (λ k. k - from) p.long ∙ sym (length-drop from before) in
    let m : length (part w from after) ≡ length (part w from before) = length-take w (drop from after) ∙ ap (min w) l ∙ sym (length-take w (drop from before)) in
    ext_get_or (pos 0) (part w from after) (part w from before) m
    (λ d h. let k : d < w = omega (arith, length-take w (drop from after)) in get_d_part w from d after k ∙ same d k apart ∙ sym (get_d_part w from d before k))
  where
    same : (d : ℕ) → d < w → (from + w ≤ at) ⊎ (at + length values ≤ from) → get_or after (from + d) (pos 0) ≡ get_or before (from + d) (pos 0)
    same d k (inl h) = p.under (from + d) (omega arith)
    same d k (inr h) = p.over (from + d) (omega arith)

-- values of w numbers each: the one that was put reads as it should, and the others as before
pub written : {A : Type 0} (w : ℕ) (of : List ℤ → A) (i : ℕ) (values before after : List ℤ) (v : A) → length values ≡ w → w * i + w ≤ length before → of values ≡ v →
    Put (w * i) values before after → Written (value_in w of) i v before after
written w of i values before after v e room is p =
    record {
      long = p.long;
      there = ap of (part-there w (w * i) values before after e room p) ∙ is;
      under = λ j h. let m = mul-le-mul_left {m = suc j} {n = i} w h in let s = mul-suc w j in ap of (part_apart w (w * i) (w * j) values before after p (inl (omega arith)));
      over = λ j h. let m = mul-le-mul_left {m = suc i} {n = j} w h in let s = mul-suc w i in ap of (part_apart w (w * i) (w * j) values before after p (inr (omega arith)));
    }

-- values written over a part
pub put_mid_is : (at : ℕ) (values before : List ℤ) → at + length values ≤ length before → Put at values before (put_mid at (length values) before values)
put_mid_is at values before room = grind (arith, common_steps)

-- a value whose numbers are written over a part; w1 and k are as many as they take
pub written_mid : {A : Type 0} (w : ℕ) (of : List ℤ → A) (i : ℕ) (values before : List ℤ) (v : A) (w1 k : ℕ) → w1 ≡ w → k ≡ w → length values ≡ w → w * i + w ≤ length before → of values ≡ v →
    Written (value_in w of) i v before (put_mid (w1 * i) k before values)
written_mid w of i values before v w1 k a b e room is =
    let p : Put (w * i) values before (put_mid (w * i) (length values) before values) = put_mid_is (w * i) values before (omega arith) in
    subst₂ (λ x y. Written (value_in w of) i v before (put_mid (x * i) y before values)) (sym a) (e ∙ sym b) (written w of i values before _ v e room is p)
