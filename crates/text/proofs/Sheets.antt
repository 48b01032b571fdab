-- A sheet of words after an edit.
use Rattle.std.proofs.Common.{◌≡◌, ℕ, zero, suc, ◌+◌, ◌-◌, ◌<◌, ◌≤◌, ◌⊎◌, List, [], ◌∷◌, ◌++◌, length, get_or, take, drop, set, ℤ, sym, refl, ap, ◌∙◌, subst, ap₂, inl, inr, append_assoc, arith, length-append, length-set, take-suc}
use lib.Seq.{take-append_seam, drop-append_seam}
use borrow.Rule.Slice.PartMut.{put_mid, mid_of, same_len_mid}
use Rattle.std.proofs.lemmas.Bool.{cases_lt}
use Rattle.text.specs.declared.sheet.Sheet.{Sheet}
use Rattle.text.specs.Sheet.{Holds, Behind, Puts}

-- where there are too many words, it doesn't matter which
pub too_many : (s : Sheet) (xs ys : List ℤ) → 1024 < length xs → 1024 < length ys → Holds s xs → Holds s ys
too_many s xs ys h k held =
    let counts = held.counted in record { sized = held.sized; counted = omega arith; written = λ few. absurd (omega arith) }

pub same_words : (s : Sheet) (xs ys : List ℤ) → xs ≡ ys → Holds s xs → Holds s ys
same_words s xs ys e held = subst (λ zs. Holds s zs) e held

set_seam : (xs : List ℤ) (y w : ℤ) (ys : List ℤ) → set (xs ++ (y ∷ ys)) (length xs) w ≡ (xs ++ (w ∷ [])) ++ ys
set_seam [] y w ys = refl
set_seam (x ∷ xs) y w ys = ap {B = List ℤ} (λ r. x ∷ r) (set_seam xs y w ys)

-- room is left behind the words
set_behind : (words xs rest : List ℤ) (w : ℤ) → words ≡ xs ++ rest → length xs < length words → (more : List ℤ) × (set words (length xs) w ≡ (xs ++ (w ∷ [])) ++ more)
set_behind words xs [] w e h =
    let l : length words ≡ length xs + 0 = ap length e ∙ length-append xs [] in absurd (omega arith)
set_behind words xs (y ∷ rest) w e h = (rest, ap (λ l. set l (length xs) w) e ∙ set_seam xs y w rest)

pub put-fits : (s : Sheet) (w v : ℤ) (xs : List ℤ) → v ≡ w → s.count < 1024 → Holds s xs → Holds (record { words = set s.words s.count v; count = s.count + 1 }) (xs ++ (w ∷ []))
put-fits s w v xs same h held =
    let counts = held.counted in
    let room : length s.words ≡ 1024 = held.sized in
    let long : length (xs ++ (w ∷ [])) ≡ length xs + 1 = length-append xs (w ∷ []) in
    let n : s.count ≡ length xs = omega arith in
    let was = held.written (omega arith) in
    let put = set_behind s.words xs was.0 w was.1 (omega arith) in
    record {
      sized = length-set s.words s.count v ∙ held.sized;
      counted = omega arith;
      written = λ _. (put.0, ap₂ (λ k u. set s.words k u) n same ∙ put.1);
    }

-- a part in the middle, and another in its place
mid_seam : (xs ys zs : List ℤ) (k : ℕ) → k ≡ length ys → mid_of (length xs) k (xs ++ (ys ++ zs)) ≡ ys
mid_seam xs ys zs k e = ap (take k) (drop-append_seam xs (ys ++ zs)) ∙ ap (λ n. take n (ys ++ zs)) e ∙ take-append_seam ys zs

put_seam : (xs ys zs us : List ℤ) (k : ℕ) → k ≡ length ys → put_mid (length xs) k (xs ++ (ys ++ zs)) us ≡ xs ++ (us ++ zs)
put_seam xs ys zs us k e =
    ap₂ (λ a b. a ++ (us ++ drop k b)) (take-append_seam xs (ys ++ zs)) (drop-append_seam xs (ys ++ zs)) ∙
    ap (λ b. xs ++ (us ++ b)) (ap (λ n. drop n (ys ++ zs)) e ∙ drop-append_seam ys zs)

-- the words from a place on, replaced by as many
pub replaced : (s : Sheet) (xs ys us new : List ℤ) (from : ℕ) → Behind xs from → s.count ≤ 1024 → length us ≡ length ys →
    (mid_of from (s.count - from) s.words ≡ ys → new ≡ us) → Holds s (xs ++ ys) →
    Holds (record { words = put_mid from (s.count - from) s.words new; count = s.count }) (xs ++ us)
replaced s xs ys us new from begins few long is held =
    let counts = held.counted in
    let before : length (xs ++ ys) ≡ length xs + length ys = length-append xs ys in
    let after : length (xs ++ us) ≡ length xs + length us = length-append xs us in
    let was = held.written (omega arith) in
    let words_are : s.words ≡ xs ++ (ys ++ was.0) = was.1 ∙ append_assoc xs ys was.0 in
    let from_is : from ≡ length xs = omega arith in
    let k-is : s.count - from ≡ length ys = omega arith in
    let mid : mid_of from (s.count - from) s.words ≡ ys = ap₂ (λ a l. mid_of a (s.count - from) l) from_is words_are ∙ mid_seam xs ys was.0 (s.count - from) k-is in
    let new_is : new ≡ us = is mid in
    let new-long : length new ≡ length (mid_of from (s.count - from) s.words) = ap length new_is ∙ long ∙ sym (ap length mid) in
    record {
      sized = same_len_mid from (s.count - from) s.words new new-long ∙ held.sized;
      counted = omega arith;
      written = λ _. (
        was.0,
        ap₂ (λ a l. put_mid a (s.count - from) l new) from_is words_are ∙ put_seam xs ys was.0 new (s.count - from) k-is ∙
            ap (λ n. xs ++ (n ++ was.0)) new_is ∙ sym (append_assoc xs us was.0),
      );
    }

pub last_in_front : (ys : List ℤ) (w : ℤ) (l : List ℤ) → l ≡ ys ++ (w ∷ []) → drop (length l - 1) l ++ take (length l - 1) l ≡ w ∷ ys
last_in_front ys w l e =
    let n : length (ys ++ (w ∷ [])) - 1 ≡ length ys = omega (arith, length-append ys (w ∷ [])) in
    ap (λ (m : List ℤ). drop (length m - 1) m ++ take (length m - 1) m) e ∙
    ap₂ (λ a b. a ++ b) (ap (λ k. drop k (ys ++ (w ∷ []))) n ∙ drop-append_seam ys (w ∷ [])) (ap (λ k. take k (ys ++ (w ∷ []))) n ∙ take-append_seam ys (w ∷ []))

pub turned : (ys zs l : List ℤ) (k : ℕ) → k ≡ length ys → l ≡ ys ++ zs → drop k l ++ take k l ≡ zs ++ ys
turned ys zs l k n e =
    ap₂ (λ j (m : List ℤ). drop j m ++ take j m) n e ∙ ap₂ (λ a b. a ++ b) (drop-append_seam ys zs) (take-append_seam ys zs)

-- a word of the middle part
get_d_middle : (xs ys zs : List ℤ) (k : ℕ) (d : ℤ) → k < length ys → get_or (xs ++ (ys ++ zs)) (length xs + k) d ≡ get_or ys k d
get_d_middle [] [] zs k d h = absurd (omega arith)
get_d_middle [] (y ∷ ys) zs zero d h = refl
get_d_middle [] (y ∷ ys) zs (suc k) d h =
    let e : 0 + suc k ≡ suc k = omega arith in
    let f : k ≡ 0 + k = omega arith in
    ap (λ n. get_or (y ∷ (ys ++ zs)) n d) e ∙ ap (λ n. get_or (ys ++ zs) n d) f ∙ get_d_middle [] ys zs k d (omega arith)
get_d_middle (x ∷ xs) ys zs k d h =
    let e : suc (length xs) + k ≡ suc (length xs + k) = omega arith in
    ap (λ n. get_or (x ∷ (xs ++ (ys ++ zs))) n d) e ∙ get_d_middle xs ys zs k d h

-- one word of the part that is repeated
pub repeated : (s after : Sheet) (xs ys zs : List ℤ) (from to i : ℕ) (v d : ℤ) → Behind xs from → Behind (xs ++ ys) to → to ≤ 1024 → from ≤ i → i < to →
    v ≡ get_or s.words i d → Holds s (xs ++ (ys ++ (zs ++ take (i - from) ys))) → Puts v s after →
    Holds after (xs ++ (ys ++ (zs ++ take (i + 1 - from) ys)))
repeated s after xs ys zs from to i v d begins ends few low high is held puts =
    let front : length (xs ++ ys) ≡ length xs + length ys = length-append xs ys in
    let from_is : from ≡ length xs = omega arith in
    let within : i - from < length ys = omega arith in
    let step : i + 1 - from ≡ suc (i - from) = omega arith in
    let content : List ℤ = xs ++ (ys ++ (zs ++ take (i - from) ys)) in
    let more : take (i + 1 - from) ys ≡ take (i - from) ys ++ (get_or ys (i - from) d ∷ []) = ap (λ n. take n ys) step ∙ take-suc ys (i - from) d within in
    let whole : (u : ℤ) → content ++ (u ∷ []) ≡ xs ++ (ys ++ (zs ++ (take (i - from) ys ++ (u ∷ [])))) =
    λ u. append_assoc xs (ys ++ (zs ++ take (i - from) ys)) (u ∷ []) ∙ ap (λ l. xs ++ l) (append_assoc ys (zs ++ take (i - from) ys) (u ∷ []) ∙ ap (λ l. ys ++ l) (append_assoc zs (take (i - from) ys) (u ∷ []))) in
    let goal : (u : ℤ) → u ≡ get_or ys (i - from) d → content ++ (u ∷ []) ≡ xs ++ (ys ++ (zs ++ take (i + 1 - from) ys)) =
    λ u e. whole u ∙ ap (λ l. xs ++ (ys ++ (zs ++ l))) (ap (λ g. take (i - from) ys ++ (g ∷ [])) e ∙ sym more) in
    go (cases_lt 1024 (length content)) from_is within goal
  where
    content' : List ℤ
    content' = xs ++ (ys ++ (zs ++ take (i - from) ys))

    go : (1024 < length content') ⊎ (length content' ≤ 1024) → from ≡ length xs → i - from < length ys →
        ((u : ℤ) → u ≡ get_or ys (i - from) d → content' ++ (u ∷ []) ≡ xs ++ (ys ++ (zs ++ take (i + 1 - from) ys))) →
        Holds after (xs ++ (ys ++ (zs ++ take (i + 1 - from) ys)))
    go (inl many) e h goal =
        let long : (u : ℤ) → length (content' ++ (u ∷ [])) ≡ length content' + 1 = λ u. length-append content' (u ∷ []) in
        let same : length (content' ++ (get_or ys (i - from) d ∷ [])) ≡ length (xs ++ (ys ++ (zs ++ take (i + 1 - from) ys))) = ap length (goal (get_or ys (i - from) d) refl) in
        too_many after (content' ++ (v ∷ [])) (xs ++ (ys ++ (zs ++ take (i + 1 - from) ys))) (omega (arith, long v)) (omega (arith, long (get_or ys (i - from) d))) (puts content' held)
    go (inr fit) e h goal =
        let was = held.written fit in
        let place : i ≡ length xs + (i - from) = omega arith in
        let words_are : s.words ≡ xs ++ (ys ++ ((zs ++ take (i - from) ys) ++ was.0)) =
        was.1 ∙ append_assoc xs (ys ++ (zs ++ take (i - from) ys)) was.0 ∙ ap (λ l. xs ++ l) (append_assoc ys (zs ++ take (i - from) ys) was.0) in
        let v-is : v ≡ get_or ys (i - from) d =
        is ∙ ap₂ (λ l n. get_or l n d) words_are place ∙ get_d_middle xs ys ((zs ++ take (i - from) ys) ++ was.0) (i - from) d h in
        same_words after (content' ++ (v ∷ [])) (xs ++ (ys ++ (zs ++ take (i + 1 - from) ys))) (goal v v-is) (puts content' held)
