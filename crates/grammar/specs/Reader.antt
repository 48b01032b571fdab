-- Readers: each looks at the character in front, passes it, refuses, or gives what it has read. Assumes nothing.
use Rattle.std.specs.Prelude.{ℕ, zero, suc, ◌-◌, Bool, cond, List, length, nat_lt, slice_index}
use Rattle.grammar.specs.declared.fault.Fault.{Fault}
use Rattle.grammar.specs.declared.fault.Fault.TheVariants.{Unfit, Deep, Wrong}
use Rattle.grammar.specs.declared.refusal.Refusal.{Refusal}
use Rattle.grammar.specs.declared.refusal.Refusal.TheVariants.{Misfit, TooLarge, WrongName}

infixl 20 ◌>>=◌
infixl 20 ◌>>◌
pub data Reader (A : Type 0) : Type 0 where
  Give : A → Reader A
  Look : (ℕ → Reader A) → Reader A
  Pass : Reader A → Reader A
  Refuse : Fault → Reader A

-- one reader, then another, which may depend on what the first has read
unfoldable pub ◌>>=◌ : {A B : Type 0} → Reader A → (A → Reader B) → Reader B
Give a >>= next = next a
Look on >>= next = Look (λ c. on c >>= next)
Pass r >>= next = Pass (r >>= next)
Refuse f >>= next = Refuse f

abbrev pub ◌>>◌ : {A B : Type 0} → Reader A → Reader B → Reader B
r >> s = r >>= (λ _. s)

-- again while the character in front passes the test, at most n times
unfoldable pub while : {S : Type 0} → ℕ → (S → ℕ → Bool) → (S → Reader S) → S → Reader S
while zero test turn s = Give s
while (suc n) test turn s = Look (λ c. cond (test s c) (turn s >>= while n test turn) (Give s))

-- what was read, with the number of characters before what is left; or a refusal
pub data Outcome (A : Type 0) : Type 0 where
  Refused : Refusal → Outcome A
  Read : A → ℕ → Outcome A

-- where i characters stand before the one in front
abbrev pub refusal_at : Fault → ℕ → Refusal
refusal_at Unfit i = Misfit (suc i)
refusal_at Deep i = TooLarge
refusal_at (Wrong letters) i = WrongName (suc i - letters)

-- behind the character that has i before it; behind the end nothing stands
abbrev pub next : List ℕ → ℕ → ℕ
next text i = cond (nat_lt i (length text)) (suc i) i

-- a reader on a text, from the character that has i before it; past the end stands 0, which fits nowhere
unfoldable pub run : {A : Type 0} → Reader A → List ℕ → ℕ → Outcome A
run (Give a) text i = Read a i
run (Look on) text i = run (on (slice_index text i)) text i
run (Pass r) text i = run r text (next text i)
run (Refuse f) text i = Refused (refusal_at f i)
