-- Characters by their codes. Assumes nothing.
use Rattle.std.specs.Prelude.{ℕ, zero, suc, Bool, cond, ◌&&◌, ◌||◌, List, [], ◌∷◌, ◌++◌, take, replicate, codes, ◌==◌, nat_le, nat_lt}
use Rattle.std.specs.Str.{bytes_eq}
use Rattle.grammar.specs.declared.word.Word.{Word}

-- a space or a line feed
abbrev pub is_blank : ℕ → Bool
is_blank c = c == 32 || c == 10

abbrev pub is_letter : ℕ → Bool
is_letter c = nat_le 97 c && nat_le c 122

abbrev pub is_digit : ℕ → Bool
is_digit c = nat_le 48 c && nat_le c 57

-- eight letters, with zeros behind the last one
abbrev pub padded : List ℕ → List ℕ
padded cs = take 8 (cs ++ replicate 8 0)

abbrev pub is_word : List ℕ → Word → Bool
is_word cs w = bytes_eq w.letters (padded cs)

-- the words of the language
abbrev pub is_reserved : Word → Bool
is_reserved w = is_word (codes "every") w || (is_word (codes "some") w || (is_word (codes "and") w || (is_word (codes "or") w || is_word (codes "not") w)))

-- a byte that goes on a character isn't one of its own
abbrev pub is_character : ℕ → Bool
is_character b = nat_lt b 128 || nat_le 192 b

-- how many characters there are
unfoldable pub characters : List ℕ → ℕ
characters [] = zero
characters (b ∷ text) = cond (is_character b) (suc (characters text)) (characters text)
