-- What a text reads as: the words of a sentence, or a refusal. Assumes nothing.
use Rattle.std.specs.Prelude.{ℕ, suc, Bool, true, false, cond, ◌||◌, List, [], ◌∷◌, length, ℤ, Ok, Err, codes, Result, ◌==◌, nat_le}
use Rattle.field.specs.Sentence.{Sentence}
use Rattle.grammar.specs.declared.refusal.Refusal.{Refusal}
use Rattle.grammar.specs.declared.refusal.Refusal.TheVariants.{Misfit, TooLarge}
use Rattle.grammar.specs.declared.word.Word.{Word}
use Rattle.grammar.specs.Characters.{characters}
use Rattle.grammar.specs.Formulas.{claimed, equivalence}
use Rattle.grammar.specs.Meaning.{sentence_words}
use Rattle.grammar.specs.Nesting.{nest}
use Rattle.grammar.specs.Reader.{Reader, Give, Look, Outcome, Refused, Read, ◌>>=◌, ◌>>◌, while, run}
use Rattle.grammar.specs.Tokens.{longest, blanks, sign, keyword, new_name}

-- how deep a text may be nested
abbrev pub deepest : ℕ
deepest = 200

-- the quantifiers so far and their names, the innermost first
pub record Prefix : Type 0 where
  pub names : List Word
  pub quantifiers : List Bool

-- `every` or `some`, by its first letter
unfoldable pub quantifier_of : ℕ → Reader Bool
quantifier_of c = cond (c == 101) (keyword (codes "every") >> Give true) (keyword (codes "some") >> Give false)

-- a quantifier more, with its name
unfoldable pub prefix_next : Prefix → Reader Prefix
prefix_next p =
    Look quantifier_of >>= (λ q. new_name p.names >>= (λ w. Give (record { names = w ∷ p.names; quantifiers = q ∷ p.quantifiers })))

-- the first letter of `every` or `some`
abbrev pub is_quantifier_letter : ℕ → Bool
is_quantifier_letter c = c == 101 || c == 115

abbrev pub begins_quantifier : Prefix → ℕ → Bool
begins_quantifier p c = is_quantifier_letter c

unfoldable pub prefix_for : ℕ → Prefix → Reader Prefix
prefix_for n = while n begins_quantifier prefix_next

-- at most four quantifiers
unfoldable pub quantifiers : Reader Prefix
quantifiers = prefix_for 4 (record { names = []; quantifiers = [] })

unfoldable pub sentence : Reader Sentence
sentence =
    blanks >> (quantifiers >>= (λ p. sign (codes ":") >> (equivalence p.names (nest p.names deepest) >>=
    (λ b. claimed b >>= (λ q. Give (record { quantifiers = p.quantifiers; body = q.formula }))))))

-- at most 1,024 words
unfoldable pub few_words : List ℤ → Result (List ℤ) Refusal
few_words words = cond (nat_le (length words) 1024) (Ok words) (Err TooLarge)

-- read to the last character
unfoldable pub whole : List ℕ → Outcome Sentence → Result (List ℤ) Refusal
whole text (Refused r) = Err r
whole text (Read s i) = cond (i == length text) (few_words (sentence_words s)) (Err (Misfit (suc i)))

-- a text by its bytes; a byte of 128 or more fits nowhere
unfoldable pub reading : List ℕ → Result (List ℤ) Refusal
reading text = cond (nat_le (characters text) longest) (whole text (run sentence text 0)) (Err TooLarge)
