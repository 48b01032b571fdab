-- A formula's tree in outline: how many questions it has of its own, how often each end stands in it, each counted up to 3,500, and which end it leads to. Assumes nothing.
use Rattle.std.specs.Prelude.{ℕ, ◌+◌, ◌*◌, min, cond, ℤ, Some, None, Option, Ok, Err, Result, nat_lt}
use Rattle.field.specs.Sentence.{Formula, BelowZero, EqualsZero, Not, And, Or}
use Rattle.words.specs.declared.answer.Answer.{Answer}
use Rattle.words.specs.declared.answer.Answer.TheVariants.{Yes, No, GivenUp}
use Rattle.ground.specs.declared.outline.Outline.{Outline}
use Rattle.ground.specs.declared.verdict.Refusal.{Refusal}
use Rattle.ground.specs.declared.verdict.Refusal.TheVariants.{NotASentence}
use Rattle.words.specs.Reading.{Reading, Refused, Read}
use Rattle.ground.specs.Ground.{number_of, by_sign}

abbrev pub capped : ℕ → ℕ
capped n = min n 3500

-- the answer that a formula leads to where a part of it leads to the other formula
abbrev pub onward : Answer → Answer → Answer → Answer → Answer
onward Yes y n x = y
onward No y n x = n
onward GivenUp y n x = x

abbrev pub compared : Option ℤ → Answer → Answer → Answer → ℕ → ℕ → Outline
compared None a b c y n = record { questions = 0; yes = 0; no = 0; end = GivenUp }
compared (Some z) a b c y n = record { questions = 1; yes = y; no = n; end = by_sign z a b c }

abbrev pub negated : Outline → Outline
negated p = record { questions = p.questions; yes = p.no; no = p.yes; end = onward p.end No Yes GivenUp }

-- the second stands where the first says yes
abbrev pub conjoined : Outline → Outline → Outline
conjoined p q = record {
  questions = capped (p.questions + p.yes * q.questions);
  yes = capped (p.yes * q.yes);
  no = capped (p.no + p.yes * q.no);
  end = onward p.end q.end No GivenUp;
}

unfoldable pub outline_of : Formula → Outline
outline_of (BelowZero t) = compared (number_of t) Yes No No 1 2
outline_of (EqualsZero t) = compared (number_of t) No Yes No 1 2
outline_of (Not p) = negated (outline_of p)
outline_of (And p q) = conjoined (outline_of p) (outline_of q)
outline_of (Or p q) = negated (conjoined (negated (outline_of p)) (negated (outline_of q)))

abbrev pub concluded : Outline → Answer
concluded p = cond (nat_lt p.questions 3500) p.end GivenUp

abbrev pub concluded_by : Reading Formula → Result Answer Refusal
concluded_by Refused = Err NotASentence
concluded_by (Read p more) = Ok (concluded (outline_of p))
