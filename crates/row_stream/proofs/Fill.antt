-- A plan filled place by place, from a chain of slices. Assumes nothing.
use Rattle.std.proofs.Common.{◌≡◌, ℕ, zero, suc, ◌+◌, ◌<◌, ◌≤◌, min, List, [], ◌∷◌, ◌++◌, length, get_or, take, drop, set, Option, Some, None, unwrap_or, Iter, MatchOption, sym, refl, ap, ap₂, ◌∙◌, subst, subst₂, append_assoc, append-nil, add-one, drop_of_length-le, drop-cons, take-suc-set, arith}
use Rattle.std.specs.Bool.{MatchBool}
use Rattle.std.specs.Option.{option_copied}
use mathlib.Core.Bool.{Bool, true, false, cond}
use denote.Ref.{Bor}
use Rattle.std.specs.Slice.Iter.{iter_rest, iter_steps}
use Rattle.std.specs.declared.iter.Chain.{Chain}
use Rattle.std.specs.Iterator.Adapters.{chain_first, chain_second, chain_first_done, chain_second_done, chain_steps}
use Rattle.field.specs.declared.sign.Sign.{Sign}
use Rattle.field.specs.declared.sign.Sign.TheVariants.{Zero}
use Rattle.sign_table.specs.Deduce.{insert_at}
use Rattle.stream.specs.Stage.{filled_by}

-- the first of these signs is taken, if there is one, and those are left
abbrev pub Takes : List Sign → Option (Bor Sign) → List Sign → Type 0
Takes signs r left = MatchOption r ((signs ≡ []) × (left ≡ [])) (λ x. signs ≡ x.now ∷ left)

no_sign : (signs : List Sign) → length signs ≡ 0 → signs ≡ []
no_sign [] e = refl
no_sign (s ∷ signs) e = cc

iter_takes : (s t : Iter Sign) (r : Option (Bor Sign)) → iter_steps s r t → Takes (iter_rest s) r (iter_rest t)
iter_takes s t None h = (no_sign (iter_rest s) h.0, ap iter_rest h.1 ∙ no_sign (iter_rest s) h.0)
iter_takes s t (Some x) h = h

-- what a side has left, unless it is done
abbrev unless_done : Bool → List Sign → List Sign
unless_done done signs = cond done [] signs

second_takes : (done : Bool) (s t : Iter Sign) (r : Option (Bor Sign)) → MatchBool done (r ≡ None) (iter_steps s r t) → Takes (unless_done done (iter_rest s)) r (unless_done done (iter_rest t))
second_takes true s t None h = (refl, refl)
second_takes true s t (Some x) h = cc
second_takes false s t r h = iter_takes s t r h

abbrev pub chain_rest : {S : Type 0} → (S → List Sign) → Chain S (Iter Sign) → List Sign
chain_rest rest z = unless_done (chain_first_done z) (rest (chain_first z)) ++ unless_done (chain_second_done z) (iter_rest (chain_second z))

module _ {S : Type 0} (steps : S → Option (Bor Sign) → S → Type 0) (rest : S → List Sign) (takes : (s t : S) (r : Option (Bor Sign)) → steps s r t → Takes (rest s) r (rest t)) where
  abbrev SecondGives : Bool → Bool → Iter Sign → Option (Bor Sign) → Iter Sign → Type 0
  SecondGives done past b r c = MatchBool done (r ≡ None) (iter_steps b r c) × (past ≡ true)

  abbrev FirstGives : Bool → Bool → Iter Sign → Option (Bor Sign) → Iter Sign → Option (Bor Sign) → Type 0
  FirstGives done past b r c o = MatchOption o (SecondGives done past b r c) (λ x. (r ≡ Some x) × (c ≡ b) × (past ≡ false))

  -- s and b: the two sides before the call; t and c: afterwards; o: what the first gave
  first_takes : (done past : Bool) (s t : S) (b c : Iter Sign) (r o : Option (Bor Sign)) → Takes (rest s) o (rest t) → FirstGives done past b r c o →
      Takes (rest s ++ unless_done done (iter_rest b)) r (unless_done past (rest t) ++ unless_done done (iter_rest c))
  first_takes done past s t b c r None k h =
      subst₂ (λ xs d. Takes (xs ++ unless_done done (iter_rest b)) r (unless_done d (rest t) ++ unless_done done (iter_rest c))) (sym k.0) (sym h.1) (second_takes done b c r h.0)
  first_takes done past s t b c r (Some x) k h =
      subst₂ (λ q d. Takes (rest s ++ unless_done done (iter_rest b)) q (unless_done d (rest t) ++ unless_done done (iter_rest c))) (sym h.0) (sym h.2)
      (ap₂ (λ xs e. xs ++ unless_done done (iter_rest e)) k (sym h.1))

  sides_take : (over done past : Bool) (s t : S) (b c : Iter Sign) (r : Option (Bor Sign)) →
      MatchBool over (SecondGives done past b r c) ((o : Option (Bor Sign)) × steps s o t × FirstGives done past b r c o) →
      Takes (unless_done over (rest s) ++ unless_done done (iter_rest b)) r (unless_done past (rest t) ++ unless_done done (iter_rest c))
  sides_take true done past s t b c r h = subst (λ d. Takes (unless_done done (iter_rest b)) r (unless_done d (rest t) ++ unless_done done (iter_rest c))) (sym h.1) (second_takes done b c r h.0)
  sides_take false done past s t b c r h = first_takes done past s t b c r h.0 (takes s t h.0 h.1) h.2

  pub chain_takes : (y z : Chain S (Iter Sign)) (r : Option (Bor Sign)) → chain_steps steps iter_steps y r z → Takes (chain_rest rest y) r (chain_rest rest z)
  chain_takes y z r h =
      subst (λ d. Takes (chain_rest rest y) r (unless_done (chain_first_done z) (rest (chain_first z)) ++ unless_done d (iter_rest (chain_second z)))) (sym h.0)
      (sides_take (chain_first_done y) (chain_second_done y) (chain_first_done z) (chain_first y) (chain_first z) (chain_second y) (chain_second z) r h.1)

-- what is left of the others before p, of p, and of the others behind it
abbrev pub Reals : Type 0
Reals = Chain (Chain (Iter Sign) (Iter Sign)) (Iter Sign)

abbrev pub reals_rest : Reals → List Sign
reals_rest z = chain_rest (chain_rest iter_rest) z

pub reals_take : (y z : Reals) (r : Option (Bor Sign)) → chain_steps (chain_steps iter_steps iter_steps) iter_steps y r z → Takes (reals_rest y) r (reals_rest z)
reals_take y z r h = chain_takes (chain_steps iter_steps iter_steps) (chain_rest iter_rest) (chain_takes iter_steps iter_rest iter_takes) y z r h

-- i slots are filled, and these of the real ones' signs are left
abbrev pub FilledTo : List (Option Sign) → List Sign → List Sign → ℕ → List Sign → Type 0
FilledTo plan r items i left = take i items ++ filled_by (drop i plan) left ≡ filled_by plan r

filled_more : (plan : List (Option Sign)) (r items left next : List Sign) (i : ℕ) (e : Option Sign) (v : Sign) → i < length plan → i < length items →
    filled_by (get_or plan i e ∷ drop (suc i) plan) left ≡ v ∷ filled_by (drop (suc i) plan) next → FilledTo plan r items i left → FilledTo plan r (set items i v) (i + 1) next
filled_more plan r items left next i e v h k first inv =
    let rest = filled_by (drop (suc i) plan) next in
    ap (λ n. take n (set items i v) ++ filled_by (drop n plan) next) (add-one i)
    ∙ ap (λ t. t ++ rest) (take-suc-set items i v k)
    ∙ append_assoc (take i items) (v ∷ []) rest
    ∙ ap (λ t. take i items ++ t) (sym (ap (λ p. filled_by p left) (drop-cons plan i e h) ∙ first))
    ∙ inv

known_first : (x : Option Sign) (plan : List (Option Sign)) (left : List Sign) (v : Sign) → x ≡ Some v → filled_by (x ∷ plan) left ≡ v ∷ filled_by plan left
unfolding filled_by
known_first None plan left v e = cc
known_first (Some t) plan left v e = ap {B = List Sign} (λ o. unwrap_or o Zero ∷ filled_by plan left) e

taken_first : (x : Option Sign) (plan : List (Option Sign)) (left next : List Sign) (r : Option (Bor Sign)) → x ≡ None → Takes left r next →
    filled_by (x ∷ plan) left ≡ unwrap_or (option_copied r) Zero ∷ filled_by plan next
unfolding filled_by
taken_first (Some t) plan left next r e h = cc
taken_first None plan left next None e h = ap (λ l. filled_by (None ∷ plan) l) h.0 ∙ ap {B = List Sign} (λ l. Zero ∷ filled_by plan l) (sym h.1)
taken_first None plan left next (Some x) e h = ap (λ l. filled_by (None ∷ plan) l) h

pub filled_known : (plan : List (Option Sign)) (r items left : List Sign) (i : ℕ) (e : Option Sign) (v : Sign) → i < length plan → i < length items →
    get_or plan i e ≡ Some v → FilledTo plan r items i left → FilledTo plan r (set items i v) (i + 1) left
filled_known plan r items left i e v h k is inv = filled_more plan r items left left i e v h k (known_first (get_or plan i e) (drop (suc i) plan) left v is) inv

pub filled_taken : (plan : List (Option Sign)) (r items left next : List Sign) (i : ℕ) (e : Option Sign) (v : Sign) (o : Option (Bor Sign)) → i < length plan → i < length items →
    get_or plan i e ≡ None → Takes left o next → v ≡ unwrap_or (option_copied o) Zero → FilledTo plan r items i left → FilledTo plan r (set items i v) (i + 1) next
filled_taken plan r items left next i e v o h k is takes ev inv =
    filled_more plan r items left next i e v h k (taken_first (get_or plan i e) (drop (suc i) plan) left next o is takes ∙ ap (λ s. s ∷ filled_by (drop (suc i) plan) next) (sym ev)) inv

pub filled_whole : (plan : List (Option Sign)) (r items left : List Sign) (i : ℕ) → length plan ≤ i → FilledTo plan r items i left → take i items ≡ filled_by plan r
unfolding filled_by
filled_whole plan r items left i h inv = sym (append-nil (take i items)) ∙ ap (λ p. take i items ++ filled_by p left) (sym (drop_of_length-le plan h)) ∙ inv

-- s stands at its place among the others, or at their end
pub inserted_between : (place n : ℕ) (s : Sign) (o : List Sign) → n ≡ min place (length o) → (take n o ++ s ∷ []) ++ drop n o ≡ insert_at place s o
unfolding insert_at
inserted_between zero zero s o h = refl
inserted_between zero (suc n) s o h = absurd (omega arith)
inserted_between (suc place) zero s [] h = refl
inserted_between (suc place) (suc n) s [] h = absurd (omega arith)
inserted_between (suc place) zero s (t ∷ o) h = absurd (omega arith)
inserted_between (suc place) (suc n) s (t ∷ o) h = ap (λ l. t ∷ l) (inserted_between place n s o (omega arith))
