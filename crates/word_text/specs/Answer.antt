-- The answer to a text of words. Assumes nothing.
use Rattle.std.specs.Prelude.{ℕ, List, ℤ, Some, None, Ok, Err, codes, Option, Result}
use Rattle.words.specs.declared.answer.Answer.{Answer}
use Rattle.words.specs.declared.answer.Answer.TheVariants.{Yes, No, GivenUp}
use Rattle.ground.specs.declared.verdict.Refusal.{Refusal}
use Rattle.ground.specs.declared.verdict.Refusal.TheVariants.{NotASentence, NotDecided}
use Rattle.ground.specs.Ground.{verdict_of}
use Rattle.word_text.specs.Scan.{numbers_of}

abbrev pub verdict_if_numbers : Option (List ℤ) → Result Answer Refusal
verdict_if_numbers None = Err NotASentence
verdict_if_numbers (Some zs) = verdict_of zs

abbrev pub verdict_of_text : List ℕ → Result Answer Refusal
verdict_of_text text = verdict_if_numbers (numbers_of text)

abbrev pub line_of : Result Answer Refusal → List ℕ
line_of (Ok Yes) = codes "holds"
line_of (Ok No) = codes "fails"
line_of (Ok GivenUp) = codes "given up"
line_of (Err NotASentence) = codes "no 3"
line_of (Err NotDecided) = codes "not decided yet"
