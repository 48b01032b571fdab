-- Readers of a text's words: each starts at a word's first character, and passes the blanks behind it. Assumes nothing.
use Rattle.std.specs.Prelude.{ℕ, suc, ◌+◌, ◌-◌, ◌*◌, cond, ◌&&◌, List, [], ◌∷◌, replicate, Some, None, Option, ◌==◌, nat_le, slice_set}
use Rattle.std.specs.Str.{bytes_eq}
use Rattle.grammar.specs.declared.fault.Fault.TheVariants.{Unfit, Wrong}
use Rattle.grammar.specs.declared.word.Word.{Word}
use Rattle.grammar.specs.Characters.{is_blank, is_letter, is_digit, is_reserved}
use Rattle.grammar.specs.Reader.{Reader, Give, Look, Pass, Refuse, ◌>>=◌, ◌>>◌, while}

-- how many characters a text may have; as each turn of a loop passes one, no loop takes more turns
abbrev pub longest : ℕ
longest = 65536

-- at most n blanks
unfoldable pub blanks_for : ℕ → Reader (Unit {0})
blanks_for n = while n (λ _ c. is_blank c) (λ _. Pass (Give tt)) tt

abbrev pub blanks : Reader (Unit {0})
blanks = blanks_for longest

-- just these characters
unfoldable pub exactly : List ℕ → Reader (Unit {0})
exactly [] = Give tt
exactly (c ∷ cs) = Look (λ d. cond (d == c) (Pass (exactly cs)) (Refuse Unfit))

unfoldable pub sign : List ℕ → Reader (Unit {0})
sign cs = exactly cs >> blanks

-- a word ends where no letter follows
unfoldable pub word_end : Reader (Unit {0})
word_end = Look (λ c. cond (is_letter c) (Refuse Unfit) (Give tt))

unfoldable pub keyword : List ℕ → Reader (Unit {0})
keyword cs = exactly cs >> (word_end >> blanks)

abbrev pub no_letters : Word
no_letters = record { letters = replicate 8 0; length = 0 }

abbrev pub with_letter : Word → ℕ → Word
with_letter w c = record { letters = slice_set w.letters w.length c; length = suc w.length }

-- the letters from here on, at most n, behind those that were read
unfoldable pub letters_for : ℕ → Word → Reader Word
letters_for n = while n (λ _ c. is_letter c) (λ w. Look (λ c. Pass (Give (with_letter w c))))

abbrev pub letters_on : Reader Word
letters_on = letters_for 8 no_letters

unfoldable pub letters : Reader Word
letters = Look (λ c. cond (is_letter c) (letters_on >>= (λ w. word_end >> Give w)) (Refuse Unfit))

-- the digits of a number, five at most, as long as it stays within 65,535: a digit more fits nowhere
unfoldable pub digits_for : ℕ → ℕ → Reader ℕ
digits_for k = while k (λ n c. is_digit c && nat_le (n * 10 + (c - 48)) 65535) (λ n. Look (λ c. Pass (Give (n * 10 + (c - 48)))))

abbrev pub digits : Reader ℕ
digits = digits_for 5 0

unfoldable pub number : Reader ℕ
number = digits >>= (λ n. blanks >> Give n)

-- where a name stands in a list
unfoldable pub position : List Word → Word → Option ℕ
position [] w = None
position (v ∷ names) w = cond (bytes_eq v.letters w.letters) (Some 0) (elim (position names w) [ None ↦ None | Some i ↦ Some (suc i) ])

-- the variable of a name that has been read
unfoldable pub variable : List Word → Word → Reader ℕ
variable names w = cond (is_reserved w) (Refuse Unfit) (elim (position names w) [ None ↦ Refuse (Wrong w.length) | Some i ↦ blanks >> Give i ])

-- a name that isn't among these yet
unfoldable pub new_name : List Word → Reader Word
new_name names =
    letters >>= (λ w. cond (is_reserved w) (Refuse Unfit) (elim (position names w) [ None ↦ blanks >> Give w | Some i ↦ Refuse (Wrong w.length) ]))
