-- What a sheet of words holds, and what it holds after an edit. Assumes nothing.
use Rattle.std.specs.Prelude.{◌≡◌, ℕ, zero, suc, ◌≤◌, min, List, [], ◌∷◌, ◌++◌, length, ℤ, pos, negsuc}
use Rattle.field.specs.Sentence.{Term, Formula}
use Rattle.grammar.specs.declared.relation.Relation.{Relation}
use Rattle.grammar.specs.Meaning.{difference, power, compared, term_words, formula_words}
use Rattle.text.specs.declared.row.Row.{Row}
use Rattle.text.specs.declared.row.Row.TheVariants.{Equivalence}
use Rattle.text.specs.declared.sheet.Sheet.{Sheet}
use Rattle.text.specs.Row.{join_of}

-- these words, or, past the capacity, that they are too many
pub record Holds (s : Sheet) (words : List ℤ) : Type 0 where
  pub sized : length s.words ≡ 1024
  pub counted : s.count ≡ min (length words) 1025
  pub written : length words ≤ 1024 → (rest : List ℤ) × (s.words ≡ words ++ rest)

-- the place behind these words
abbrev pub Behind : List ℤ → ℕ → Type 0
Behind words place = place ≡ min (length words) 1025

abbrev pub Puts : ℤ → Sheet → Sheet → Type 0
Puts w before after = (xs : List ℤ) → Holds before xs → Holds after (xs ++ (w ∷ []))

abbrev pub Inserts : ℕ → ℤ → Sheet → Sheet → Type 0
Inserts from w before after = (xs ys : List ℤ) → Behind xs from → Holds before (xs ++ ys) → Holds after (xs ++ (w ∷ ys))

abbrev pub Negates : ℕ → Sheet → Sheet → Type 0
Negates from before after = (xs ys : List ℤ) → Behind xs from → Holds before (xs ++ ys) → Holds after (xs ++ (pos 9 ∷ pos 7 ∷ negsuc 0 ∷ ys))

abbrev pub Repeats : ℕ → ℕ → Sheet → Sheet → Type 0
Repeats from to before after =
    (xs ys zs : List ℤ) → Behind xs from → Behind (xs ++ ys) to → Holds before (xs ++ (ys ++ zs)) → Holds after (xs ++ (ys ++ (zs ++ ys)))

-- words so many times in a row
unfoldable pub copies : ℕ → List ℤ → List ℤ
copies zero ys = []
copies (suc n) ys = copies n ys ++ ys

-- so many signs of a product
unfoldable pub products : ℕ → List ℤ
products zero = []
products (suc n) = pos 9 ∷ products n

abbrev pub Copies : ℕ → ℕ → ℕ → Sheet → Sheet → Type 0
Copies n from to before after =
    (xs ys : List ℤ) → Behind xs from → Behind (xs ++ ys) to → Holds before (xs ++ ys) → Holds after (xs ++ (ys ++ copies n ys))

abbrev pub Multiplies : ℕ → ℕ → Sheet → Sheet → Type 0
Multiplies n from before after = (xs ys : List ℤ) → Behind xs from → Holds before (xs ++ ys) → Holds after (xs ++ (products n ++ ys))

abbrev pub Raises : ℕ → ℕ → Sheet → Sheet → Type 0
Raises n from before after =
    (xs : List ℤ) (t : Term) → Behind xs from → Holds before (xs ++ term_words t) → Holds after (xs ++ term_words (power t n))

abbrev pub Exchanges : ℕ → ℕ → Sheet → Sheet → Type 0
Exchanges from middle before after =
    (xs ys zs : List ℤ) → Behind xs from → Behind (xs ++ ys) middle → Holds before (xs ++ (ys ++ zs)) → Holds after (xs ++ (zs ++ ys))

abbrev pub Subtracts : ℕ → ℕ → Sheet → Sheet → Type 0
Subtracts from middle before after =
    (xs : List ℤ) (s t : Term) → Behind xs from → Behind (xs ++ term_words s) middle → Holds before (xs ++ (term_words s ++ term_words t)) →
    Holds after (xs ++ term_words (difference s t))

abbrev pub SubtractsFrom : ℕ → ℕ → Sheet → Sheet → Type 0
SubtractsFrom from middle before after =
    (xs : List ℤ) (s t : Term) → Behind xs from → Behind (xs ++ term_words s) middle → Holds before (xs ++ (term_words s ++ term_words t)) →
    Holds after (xs ++ term_words (difference t s))

abbrev pub Compares : Relation → ℕ → ℕ → Sheet → Sheet → Type 0
Compares r from middle before after =
    (xs : List ℤ) (s t : Term) → Behind xs from → Behind (xs ++ term_words s) middle → Holds before (xs ++ (term_words s ++ term_words t)) →
    Holds after (xs ++ formula_words (compared r s t))

abbrev pub Implies : ℕ → Sheet → Sheet → Type 0
Implies from before after = (xs ys : List ℤ) → Behind xs from → Holds before (xs ++ ys) → Holds after (xs ++ (pos 5 ∷ pos 3 ∷ ys))

abbrev pub Joins : Row → ℕ → ℕ → Sheet → Sheet → Type 0
Joins row from middle before after =
    (xs : List ℤ) (p q : Formula) → Behind xs from → Behind (xs ++ formula_words p) middle → Holds before (xs ++ (formula_words p ++ formula_words q)) →
    Holds after (xs ++ formula_words (join_of row p q))

abbrev pub Equates : ℕ → ℕ → Sheet → Sheet → Type 0
Equates = Joins Equivalence
