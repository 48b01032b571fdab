-- One reader after another on a text, and a loop, a turn at a time.
use Rattle.std.proofs.Common.{◌≡◌, ℕ, zero, suc, ◌+◌, ◌-◌, ◌<◌, ◌≤◌, Bool, true, false, cond, List, get_or, refl, ap, ◌∙◌, arith}
use Rattle.grammar.specs.declared.refusal.Refusal.{Refusal}
use Rattle.grammar.specs.Reader.{Reader, Give, Look, Pass, Refuse, Outcome, Refused, Read, ◌>>=◌, while, next, run}

-- what comes of an outcome where another reader goes on
abbrev pub onward : {A B : Type 0} → List ℕ → (A → Reader B) → Outcome A → Outcome B
onward text go (Refused r) = Refused r
onward text go (Read a j) = run (go a) text j

pub run_bind : {A B : Type 0} (r : Reader A) (go : A → Reader B) (text : List ℕ) (i : ℕ) → run (r >>= go) text i ≡ onward text go (run r text i)
unfolding run ◌>>=◌
run_bind (Give a) go text i = refl
run_bind (Look on) go text i = run_bind (on (get_or text i 0)) go text i
run_bind (Pass r) go text i = run_bind r go text (next text i)
run_bind (Refuse f) go text i = refl

-- the first has read something, or refuses
pub goes_on : {A B : Type 0} (r : Reader A) (go : A → Reader B) (text : List ℕ) (i : ℕ) (a : A) (j : ℕ) → run r text i ≡ Read a j →
    run (r >>= go) text i ≡ run (go a) text j
goes_on r go text i a j e = run_bind r go text i ∙ ap (onward text go) e

pub stops : {A B : Type 0} (r : Reader A) (go : A → Reader B) (text : List ℕ) (i : ℕ) (f : Refusal) → run r text i ≡ Refused f → run (r >>= go) text i ≡ Refused f
stops r go text i f e = run_bind r go text i ∙ ap (onward text go) e

module _ {S : Type 0} (test : S → ℕ → Bool) (turn : S → Reader S) where
  -- a loop that has had i of n turns goes on, ends at a character, or has had its turns
  pub while_again : (n i : ℕ) (s : S) (text : List ℕ) (at : ℕ) → i < n → test s (get_or text at 0) ≡ true →
      run (while (n - i) test turn s) text at ≡ run (turn s >>= while (n - (i + 1)) test turn) text at
  unfolding while run
  while_again n i s text at h e =
      let m : n - i ≡ suc (n - (i + 1)) = omega arith in
      ap (λ k. run (while k test turn s) text at) m ∙ ap (λ b. run (cond b (turn s >>= while (n - (i + 1)) test turn) (Give s)) text at) e

  pub while-ended : (n : ℕ) (s : S) (text : List ℕ) (at : ℕ) → test s (get_or text at 0) ≡ false → run (while n test turn s) text at ≡ Read s at
  unfolding while run
  while-ended zero s text at e = refl
  while-ended (suc n) s text at e = ap (λ b. run (cond b (turn s >>= while n test turn) (Give s)) text at) e

  pub while-over : (n i : ℕ) (s : S) (text : List ℕ) (at : ℕ) → n ≤ i → run (while (n - i) test turn s) text at ≡ Read s at
  unfolding while run
  while-over n i s text at h = let m : n - i ≡ 0 = omega arith in ap (λ k. run (while k test turn s) text at) m

  -- a turn that reads, and one that refuses
  pub while_goes : (n i : ℕ) (s : S) (text : List ℕ) (at : ℕ) (s' : S) (at' : ℕ) → i < n → test s (get_or text at 0) ≡ true → run (turn s) text at ≡ Read s' at' →
      run (while (n - i) test turn s) text at ≡ run (while (n - (i + 1)) test turn s') text at'
  while_goes n i s text at s' at' h e r = while_again n i s text at h e ∙ goes_on (turn s) (while (n - (i + 1)) test turn) text at s' at' r

  pub while_stops : (n i : ℕ) (s : S) (text : List ℕ) (at : ℕ) (f : Refusal) → i < n → test s (get_or text at 0) ≡ true → run (turn s) text at ≡ Refused f →
      run (while (n - i) test turn s) text at ≡ Refused f
  while_stops n i s text at f h e r = while_again n i s text at h e ∙ stops (turn s) (while (n - (i + 1)) test turn) text at f r
