-- The answer to words, and what a call is to answer and to leave in the memory that it is lent. Assumes nothing.
use Rattle.std.specs.Prelude.{ℕ, ◌^◌, cond, ◌&&◌, List, length, replicate, ℤ, pos, Some, None, Option, ◌==◌}
use Rattle.field.specs.Sentence.{Sentence}
use Rattle.words.specs.Words.{sentence_of, is_sentence}
use Rattle.sign_table.specs.Tree.{Tree, Yes, No, GivenUp, Ask}
use Rattle.decision.specs.Decide.{decide}

-- 0: it fails; 1: it holds; 2: it is given up
abbrev pub answer_number : Tree → ℕ
answer_number Yes = 1
answer_number No = 0
answer_number GivenUp = 2
answer_number (Ask p a b c) = 2

-- 3: the words are no sentence
abbrev pub answer_of : Option Sentence → ℕ
answer_of None = 3
answer_of (Some s) = answer_number (decide s)

unfoldable pub answer : List ℤ → ℕ
answer words = answer_of (sentence_of words)

-- how many numbers a call is lent to work with
abbrev pub work_length : ℕ
work_length = 2 ^ 19

-- what a call that is lent so many numbers answers; 4: they are fewer or more than it works with
abbrev pub verdict : List ℤ → ℕ → ℕ
verdict words lent = cond (is_sentence words) (cond (lent == work_length) (answer words) 4) 3

-- what the lent numbers are afterwards: all zero, or, where the call refused (3 or 4), as they were
abbrev pub leaves : List ℤ → List ℤ → List ℤ
leaves words work = cond (is_sentence words && length work == work_length) (replicate (length work) (pos 0)) work
