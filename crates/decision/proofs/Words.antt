-- The answers to words, from the main theorem. Assumes nothing.
use Rattle.std.proofs.Common.{◌≡◌, ℕ, ◌<◌, Bool, true, false, cond, eqb, List, ℤ, Some, None, Option, refl, ◌∙◌, arith}
use Rattle.field.specs.Field.{RealClosedField}
use Rattle.field.specs.Sentence.{Sentence, Holds}
use Rattle.words.specs.Words.{sentence_of, is_sentence}
use Rattle.sign_table.specs.Tree.{Tree, Yes, No, GivenUp, Ask}
use Rattle.decision.specs.Decide.{decide}
use Rattle.decision.specs.Answer.{answer_number, answer_of, answer, work_length, verdict}
use Rattle.decision.specs.Theorems.{AnswersRight}
use Rattle.decision.proofs.Decide.{decides}

number-one : (t : Tree) → answer_number t ≡ 1 → t ≡ Yes
number-one Yes h = refl
number-one No h = absurd (omega arith)
number-one GivenUp h = absurd (omega arith)
number-one (Ask p a b c) h = absurd (omega arith)

number_zero : (t : Tree) → answer_number t ≡ 0 → t ≡ No
number_zero Yes h = absurd (omega arith)
number_zero No h = refl
number_zero GivenUp h = absurd (omega arith)
number_zero (Ask p a b c) h = absurd (omega arith)

-- a verdict below 3 is the answer
verdict-answers : (words : List ℤ) (lent : ℕ) → verdict words lent < 3 → answer words ≡ verdict words lent
verdict-answers words lent = tested (is_sentence words) (eqb lent work_length)
  where
    tested : (a b : Bool) → cond a (cond b (answer words) 4) 3 < 3 → answer words ≡ cond a (cond b (answer words) 4) 3
    tested true true h = refl
    tested true false h = absurd (omega arith)
    tested false b h = absurd (omega arith)

module _ {R : Type 0} (f : RealClosedField R) where
  one_holds : (o : Option Sentence) → answer_of o ≡ 1 → (s : Sentence) × (o ≡ Some s) × Holds f s
  one_holds None h = absurd (omega arith)
  one_holds (Some s) h = (s, refl, (decides f).yes_holds s (number-one (decide s) h))

  zero_fails : (o : Option Sentence) → answer_of o ≡ 0 → (s : Sentence) × (o ≡ Some s) × (Holds f s → ⊥)
  zero_fails None h = absurd (omega arith)
  zero_fails (Some s) h = (s, refl, (decides f).no_fails s (number_zero (decide s) h))

  pub answers_right : AnswersRight f
  unfolding answer
  answers_right =
      record {
        one_holds = λ words. one_holds (sentence_of words);
        zero_fails = λ words. zero_fails (sentence_of words);
        verdict_one_holds = λ words lent h. one_holds (sentence_of words) (verdict-answers words lent (omega arith) ∙ h);
        verdict_zero_fails = λ words lent h. zero_fails (sentence_of words) (verdict-answers words lent (omega arith) ∙ h);
      }
