-- The loops of a text's words, a turn at a time.
use Rattle.std.proofs.Common.{◌≡◌, ℕ, suc, ◌+◌, ◌-◌, ◌*◌, ◌<◌, ◌≤◌, true, false, cond, ◌&&◌, leb, List, length, get_or, drop, sym, ap, ◌∙◌, add-one, drop-cons}
use Rattle.std.proofs.lemmas.Bool.{eq-eqb, ne_eqb}
use Rattle.grammar.specs.declared.fault.Fault.TheVariants.{Unfit}
use Rattle.grammar.specs.declared.word.Word.{Word}
use Rattle.grammar.specs.Characters.{is_blank, is_letter, is_digit}
use Rattle.grammar.specs.Reader.{Give, Look, Pass, Refuse, Refused, Read, refusal_at, ◌>>=◌, next, run}
use Rattle.grammar.specs.Tokens.{blanks_for, exactly, with_letter, letters_for, digits_for}
use Rattle.grammar.proofs.Runs.{while_again, while-ended, while-over}

pub blanks_again : (n i : ℕ) (text : List ℕ) (at : ℕ) → i < n → is_blank (get_or text at 0) ≡ true →
    run (blanks_for (n - i)) text at ≡ run (blanks_for (n - (i + 1))) text (next text at)
unfolding blanks_for run ◌>>=◌
blanks_again n i text at h e = while_again (λ _ c. is_blank c) (λ _. Pass (Give tt)) n i tt text at h e

pub blanks-ended : (n : ℕ) (text : List ℕ) (at : ℕ) → is_blank (get_or text at 0) ≡ false → run (blanks_for n) text at ≡ Read tt at
unfolding blanks_for
blanks-ended n text at e = while-ended (λ _ c. is_blank c) (λ _. Pass (Give tt)) n tt text at e

pub blanks-over : (n i : ℕ) (text : List ℕ) (at : ℕ) → n ≤ i → run (blanks_for (n - i)) text at ≡ Read tt at
unfolding blanks_for
blanks-over n i text at h = while-over (λ _ c. is_blank c) (λ _. Pass (Give tt)) n i tt text at h

pub letters_again : (n i : ℕ) (w : Word) (text : List ℕ) (at : ℕ) → i < n → is_letter (get_or text at 0) ≡ true →
    run (letters_for (n - i) w) text at ≡ run (letters_for (n - (i + 1)) (with_letter w (get_or text at 0))) text (next text at)
unfolding letters_for run ◌>>=◌
letters_again n i w text at h e = while_again (λ _ c. is_letter c) (λ v. Look (λ c. Pass (Give (with_letter v c)))) n i w text at h e

pub letters-ended : (n : ℕ) (w : Word) (text : List ℕ) (at : ℕ) → is_letter (get_or text at 0) ≡ false → run (letters_for n w) text at ≡ Read w at
unfolding letters_for
letters-ended n w text at e = while-ended (λ _ c. is_letter c) (λ v. Look (λ c. Pass (Give (with_letter v c)))) n w text at e

pub letters-over : (n i : ℕ) (w : Word) (text : List ℕ) (at : ℕ) → n ≤ i → run (letters_for (n - i) w) text at ≡ Read w at
unfolding letters_for
letters-over n i w text at h = while-over (λ _ c. is_letter c) (λ v. Look (λ c. Pass (Give (with_letter v c)))) n i w text at h

pub digits_again : (k i n : ℕ) (text : List ℕ) (at : ℕ) → i < k → (is_digit (get_or text at 0) && leb (n * 10 + (get_or text at 0 - 48)) 65535) ≡ true →
    run (digits_for (k - i) n) text at ≡ run (digits_for (k - (i + 1)) (n * 10 + (get_or text at 0 - 48))) text (next text at)
unfolding digits_for run ◌>>=◌
digits_again k i n text at h e =
    while_again (λ m c. is_digit c && leb (m * 10 + (c - 48)) 65535) (λ m. Look (λ c. Pass (Give (m * 10 + (c - 48))))) k i n text at h e

pub digits-ended : (k n : ℕ) (text : List ℕ) (at : ℕ) → (is_digit (get_or text at 0) && leb (n * 10 + (get_or text at 0 - 48)) 65535) ≡ false →
    run (digits_for k n) text at ≡ Read n at
unfolding digits_for
digits-ended k n text at e = while-ended (λ m c. is_digit c && leb (m * 10 + (c - 48)) 65535) (λ m. Look (λ c. Pass (Give (m * 10 + (c - 48))))) k n text at e

pub digits-over : (k i n : ℕ) (text : List ℕ) (at : ℕ) → k ≤ i → run (digits_for (k - i) n) text at ≡ Read n at
unfolding digits_for
digits-over k i n text at h =
    while-over (λ m c. is_digit c && leb (m * 10 + (c - 48)) 65535) (λ m. Look (λ c. Pass (Give (m * 10 + (c - 48))))) k i n text at h

-- the characters of a sign, one by one
pub exactly_again : (cs : List ℕ) (i : ℕ) (text : List ℕ) (at : ℕ) → i < length cs → get_or text at 0 ≡ get_or cs i 0 →
    run (exactly (drop i cs)) text at ≡ run (exactly (drop (i + 1) cs)) text (next text at)
unfolding exactly run
exactly_again cs i text at h e =
    ap (λ ds. run (exactly ds) text at) (drop-cons cs i 0 h) ∙
    ap (λ b. run (cond b (Pass (exactly (drop (suc i) cs))) (Refuse Unfit)) text at) (eq-eqb (get_or text at 0) (get_or cs i 0) e) ∙
    ap (λ k. run (exactly (drop k cs)) text (next text at)) (sym (add-one i))

pub exactly_not : (cs : List ℕ) (i : ℕ) (text : List ℕ) (at : ℕ) → i < length cs → (get_or text at 0 ≡ get_or cs i 0 → ⊥) →
    run (exactly (drop i cs)) text at ≡ Refused (refusal_at Unfit at)
unfolding exactly run
exactly_not cs i text at h e =
    ap (λ ds. run (exactly ds) text at) (drop-cons cs i 0 h) ∙
    ap (λ b. run (cond b (Pass (exactly (drop (suc i) cs))) (Refuse Unfit)) text at) (ne_eqb (get_or text at 0) (get_or cs i 0) e)
