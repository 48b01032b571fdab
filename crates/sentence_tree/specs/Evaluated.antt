-- A term read from words, and its polynomial stored. Assumes nothing.
use Rattle.std.specs.Prelude.{◌≡◌, ℕ, ◌+◌, ◌≤◌, List, ℤ, Ok, Err, Option, Result}
use Rattle.field.specs.Sentence.{Term}
use Rattle.poly.specs.Modest.{term_poly}
use Rattle.words.specs.Reading.{Reading, Refused, Read}
use Rattle.sentence_tree.specs.Placed.{Placed}

-- what is read is a term, its words are taken off, and its polynomial stands at the top, at most 64 numbers; or the words are no term
abbrev pub Evaluates : {E : Type 0} → ℕ → Reading Term → Result (Option ℕ) E → List ℤ → ℕ → List ℤ → ℕ → List ℤ → Type 0
Evaluates n Refused (Ok o) after top cells top' cells' = ⊥
Evaluates n Refused (Err x) after top cells top' cells' = Unit {0}
Evaluates n (Read t more) (Ok o) after top cells top' cells' = (after ≡ more) × Placed n (term_poly n t) o top cells top' cells' × (top' ≤ top + 64)
Evaluates n (Read t more) (Err x) after top cells top' cells' = ⊥
