-- A misfit is one for good.
use Rattle.std.proofs.Common.{◌≡◌, ℕ, suc, ◌<◌, ◌≤◌, min, Bool, true, false, cond, eqb, ltb, leb, List, length, get_or, take, ℤ, Ok, Err, sym, refl, ap, ◌∙◌, subst, arith, length-take}
use Rattle.std.proofs.lemmas.List.{get_or-take}
use Rattle.std.proofs.lemmas.Bool.{ltb-true, ltb-false, lt-ltb, le-ltb, le-leb, eqb-false, ne_eqb, cond-true, cond-false}
use Rattle.field.specs.Sentence.{Sentence}
use Rattle.grammar.specs.declared.refusal.Refusal.TheVariants.{Misfit, TooLarge}
use Rattle.grammar.specs.Characters.{characters}
use Rattle.grammar.specs.Meaning.{sentence_words}
use Rattle.grammar.specs.Reader.{Outcome, Refused, Read, run}
use Rattle.grammar.specs.RefusedForGood.{RefusedForGood}
use Rattle.grammar.specs.Text.{sentence, few_words, whole, reading}
use Rattle.grammar.specs.Tokens.{longest}
use Rattle.grammar.proofs.Fronts.{Agree, Within, same-front}

same_lengths : (k : ℕ) (text other : List ℕ) → take k text ≡ take k other → min k (length text) ≡ min k (length other)
same_lengths k text other e = sym (length-take k text) ∙ ap length e ∙ length-take k other

-- the end comes at once in both
same_end : (k : ℕ) (text other : List ℕ) (j : ℕ) → take k text ≡ take k other → j < k → ltb j (length text) ≡ ltb j (length other)
same_end k text other j e h = go (ltb j (length text)) refl
  where
    lengths : min k (length text) ≡ min k (length other)
    lengths = same_lengths k text other e

    go : (b : Bool) → ltb j (length text) ≡ b → ltb j (length text) ≡ ltb j (length other)
    go true t = let g : j < length text = ltb-true j (length text) t in t ∙ sym (lt-ltb j (length other) (omega (arith, lengths)))
    go false t = let g : length text ≤ j = ltb-false j (length text) t in t ∙ sym (le-ltb j (length other) (omega (arith, lengths)))

agree_take : (k : ℕ) (text other : List ℕ) → take k text ≡ take k other → Agree k text other
agree_take k text other e =
    record {
      front = λ j h. sym (get_or-take k text j 0 h) ∙ ap (λ (xs : List ℕ). get_or xs j 0) e ∙ get_or-take k other j 0 h;
      onward = λ j h. ap (λ b. cond b (suc j) j) (same_end k text other j e h);
    }

-- words that are refused are too many
few_no_misfit : (words : List ℤ) (k : ℕ) → few_words words ≡ Err (Misfit k) → ⊥
unfolding few_words
few_no_misfit words k e = go (leb (length words) 1024) e
  where
    go : (b : Bool) → cond b (Ok words) (Err TooLarge) ≡ Err (Misfit k) → ⊥
    go true h = let z : ◌≡◌ {A = ℕ} 0 1 = cc in omega arith
    go false h = let z : ◌≡◌ {A = ℕ} 0 1 = cc in omega arith

-- where what was read isn't the whole text, what is left begins at the misfit
left_over : (text : List ℕ) (s : Sentence) (i k : ℕ) → whole text (Read s i) ≡ Err (Misfit k) → (eqb i (length text) ≡ false) × (suc i ≡ k)
unfolding whole
left_over text s i k e = go (eqb i (length text)) refl e
  where
    go : (b : Bool) → eqb i (length text) ≡ b → cond b (few_words (sentence_words s)) (Err (Misfit (suc i))) ≡ Err (Misfit k) → (eqb i (length text) ≡ false) × (suc i ≡ k)
    go true t h = absurd (few_no_misfit (sentence_words s) k h)
    go false t h = (t, cc)

whole_for_good : (text other : List ℕ) (k : ℕ) (o : Outcome Sentence) → take k text ≡ take k other → run sentence text 0 ≡ o → whole text o ≡ Err (Misfit k) →
    whole other (run sentence other 0) ≡ Err (Misfit k)
unfolding whole
whole_for_good text other k (Refused r) same at e =
    let r-is : r ≡ Misfit k = cc in
    let at-k : run sentence text 0 ≡ Refused (Misfit k) = cc in
    let h : Within k (run sentence text 0) = subst (λ o. Within k o) (sym at-k) (omega arith) in
    ap (whole other) (same-front sentence text other k 0 (agree_take k text other same) h ∙ at-k)
whole_for_good text other k (Read s i) same at e =
    let left = left_over text s i k e in
    let k-is : suc i ≡ k = left.1 in
    let h : Within k (run sentence text 0) = subst (λ o. Within k o) (sym at) (omega arith) in
    let lengths = same_lengths k text other same in
    let apart : i ≡ length text → ⊥ = eqb-false i (length text) left.0 in
    let left_here : eqb i (length other) ≡ false = ne_eqb i (length other) (λ q. apart (omega arith)) in
    ap (whole other) (same-front sentence text other k 0 (agree_take k text other same) h ∙ at) ∙
    cond-false (eqb i (length other)) (few_words (sentence_words s)) (Err (Misfit (suc i))) left_here ∙
    ap (λ n. Err (Misfit n)) k-is

pub refused_for_good : RefusedForGood
unfolding reading
refused_for_good text other k short same e =
    cond-true (leb (characters other) longest) (whole other (run sentence other 0)) (Err TooLarge) (le-leb (characters other) longest short) ∙
    whole_for_good text other k (run sentence text 0) same refl (go (leb (characters text) longest) e)
  where
    go : (b : Bool) → cond b (whole text (run sentence text 0)) (Err TooLarge) ≡ Err (Misfit k) → whole text (run sentence text 0) ≡ Err (Misfit k)
    go true h = h
    go false h = let z : ◌≡◌ {A = ℕ} 0 1 = cc in absurd (omega arith)
