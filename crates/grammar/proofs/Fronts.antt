-- A reader's outcome depends only on the characters that it has looked at: those up to where it stands.
use Rattle.std.proofs.Common.{◌≡◌, ℕ, suc, ◌<◌, ◌≤◌, ltb, List, length, get_or, sym, refl, ap, ◌∙◌, arith}
use Rattle.std.proofs.lemmas.Bool.{cond_both}
use Rattle.grammar.specs.declared.fault.Fault.TheVariants.{Unfit, Deep, Wrong}
use Rattle.grammar.specs.declared.refusal.Refusal.TheVariants.{Misfit, TooLarge, WrongName}
use Rattle.grammar.specs.Reader.{Reader, Give, Look, Pass, Refuse, Outcome, Refused, Read, next, run}

-- the same first k characters, with 0 behind the end, and the same end if it comes before
pub record Agree (k : ℕ) (text other : List ℕ) : Type 0 where
  pub front : (j : ℕ) → j < k → get_or text j 0 ≡ get_or other j 0
  pub onward : (j : ℕ) → j < k → next text j ≡ next other j

-- settled by the first k characters
abbrev pub Within : {A : Type 0} → ℕ → Outcome A → Type 0
Within k (Refused (Misfit p)) = p ≤ k
Within k (Refused TooLarge) = ⊥
Within k (Refused (WrongName p)) = ⊥
Within k (Read a j) = j < k

before-next : (text : List ℕ) (i k : ℕ) → next text i < k → i < k
before-next text i k h = cond_both (ltb i (length text)) (suc i) i (λ n. n < k → i < k) (λ _ g. omega arith) (λ _ g. g) h

pub within_ahead : {A : Type 0} (r : Reader A) (text : List ℕ) (k i : ℕ) → Within k (run r text i) → i < k
unfolding run
within_ahead (Give a) text k i h = h
within_ahead (Look on) text k i h = within_ahead (on (get_or text i 0)) text k i h
within_ahead (Pass r) text k i h = let g : next text i < k = within_ahead r text k (next text i) h in before-next text i k g
within_ahead (Refuse Unfit) text k i h = h
within_ahead (Refuse Deep) text k i h = absurd h
within_ahead (Refuse (Wrong n)) text k i h = absurd h

pub same-front : {A : Type 0} (r : Reader A) (text other : List ℕ) (k i : ℕ) → Agree k text other → Within k (run r text i) → run r other i ≡ run r text i
unfolding run
same-front (Give a) text other k i agree h = refl
same-front (Look on) text other k i agree h =
    ap (λ c. run (on c) other i) (sym (agree.front i (within_ahead (on (get_or text i 0)) text k i h))) ∙ same-front (on (get_or text i 0)) text other k i agree h
same-front (Pass r) text other k i agree h =
    ap (run r other) (sym (agree.onward i (before-next text i k (within_ahead r text k (next text i) h)))) ∙ same-front r text other k (next text i) agree h
same-front (Refuse f) text other k i agree h = refl
