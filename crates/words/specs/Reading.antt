-- Reading from the front of a list of words. Assumes nothing.
use Rattle.std.specs.Prelude.{List, [], ◌∷◌, ℤ, Some, None, Ok, Err, Option, Result}

-- what was read, with the words after it; or the words don't fit
pub data Reading (A : Type 0) : Type 0 where
  Refused : Reading A
  Read : A → List ℤ → Reading A

-- what a reader's answer and the words that it leaves say was read
abbrev pub outcome : {A E : Type 0} → Result A E → List ℤ → Reading A
outcome (Ok a) after = Read a after
outcome (Err e) after = Refused

abbrev pub then : {A B : Type 0} → Reading A → (A → List ℤ → Reading B) → Reading B
then Refused k = Refused
then (Read a zs) k = k a zs

abbrev pub mapped : {A B : Type 0} → (A → B) → Reading A → Reading B
mapped g Refused = Refused
mapped g (Read a zs) = Read (g a) zs

-- for a part that is passed over
abbrev pub skipped : {A : Type 0} → A → Unit {0}
skipped a = tt

-- two of a kind, one after the other
abbrev pub two : {A B : Type 0} → (A → A → B) → (List ℤ → Reading A) → List ℤ → Reading B
two make go zs = then (go zs) (λ a rest. then (go rest) (λ b more. Read (make a b) more))

abbrev pub word_at : List ℤ → Reading ℤ
word_at [] = Refused
word_at (z ∷ zs) = Read z zs

abbrev pub if_some : {A : Type 0} → Option A → List ℤ → Reading A
if_some None zs = Refused
if_some (Some a) zs = Read a zs

-- the next word, if it has this meaning
abbrev pub meant : {A : Type 0} → (ℤ → Option A) → List ℤ → Reading A
meant meaning zs = then (word_at zs) (λ z rest. if_some (meaning z) rest)
