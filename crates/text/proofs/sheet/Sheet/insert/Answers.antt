-- The word is put at the end, and brought forward by turning what stands behind its place.
use Rattle.std.proofs.Common.{◌≡◌, suc, ◌+◌, ◌<◌, [], ◌∷◌, ◌++◌, length, ap, ◌∙◌, append_assoc, arith, length-append, w64}
use Rattle.std.proofs.lemmas.Int.{to_z-of_z}
use Rattle.text.specs.Sheet.{Holds}
use Rattle.text.proofs.Sheets.{too_many, same_words, replaced, last_in_front}
use Rattle.text.proofs.sheet.Sheet.insert.Goals as goal
use Rattle.text.proofs.sheet.Sheet.insert.Goals.{else-from-self-via-then-from-self+else-self-le-CAPACITY, else-from-self-via-else-from-self}

pub returns-then-self-le-CAPACITY : goal.returns-then-self-le-CAPACITY
returns-then-self-le-CAPACITY c xs ys begins held =
    let w = c.args.word in
    let put : Holds c.put.new.self (xs ++ (ys ++ (w ∷ []))) = same_words _ _ _ (ap (λ u. (xs ++ ys) ++ (u ∷ [])) (to_z-of_z w64 w c.ranges.word) ∙ append_assoc xs ys (w ∷ [])) (c.put.ensures (xs ++ ys) held) in
    let long : length (ys ++ (w ∷ [])) ≡ length ys + 1 = length-append ys (w ∷ []) in
    replaced c.put.new.self xs (ys ++ (w ∷ [])) (w ∷ ys) c.rotate_right.new.self c.args.from begins c.if-self-le-CAPACITY.true (omega arith)
    (λ mid. c.rotate_right.ensures.after ∙ last_in_front ys w _ mid) put

pub returns-else-from-self : goal.returns-else-from-self
returns-else-from-self c xs ys begins held =
    let w = c.args.word in
    let put : Holds c.put.new.self (xs ++ (ys ++ (w ∷ []))) = same_words _ _ _ (ap (λ u. (xs ++ ys) ++ (u ∷ [])) (to_z-of_z w64 w c.ranges.word) ∙ append_assoc xs ys (w ∷ [])) (c.put.ensures (xs ++ ys) held) in
    let long : length (ys ++ (w ∷ [])) ≡ length ys + 1 = length-append ys (w ∷ []) in
    let all : length (xs ++ (ys ++ (w ∷ []))) ≡ length xs + length (ys ++ (w ∷ [])) = length-append xs (ys ++ (w ∷ [])) in
    let front : length (xs ++ (w ∷ ys)) ≡ length xs + suc (length ys) = length-append xs (w ∷ ys) in
    let counts = put.counted in
    let many : 1024 < length (xs ++ (ys ++ (w ∷ []))) =
    elim c.else-from-self.branch [ else-from-self-via-then-from-self+else-self-le-CAPACITY v ↦ omega (arith, v.if-self-le-CAPACITY.false) | else-from-self-via-else-from-self v ↦ omega (arith, v.if-from-self.false) ] in
    too_many _ (xs ++ (ys ++ (w ∷ []))) (xs ++ (w ∷ ys)) many (omega arith) put
