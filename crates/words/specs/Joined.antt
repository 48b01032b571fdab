-- Answers joined under a quantifier. Assumes nothing.
use Rattle.std.specs.Prelude.{Bool, true, false}
use Rattle.words.specs.declared.answer.Answer.{Answer}
use Rattle.words.specs.declared.answer.Answer.TheVariants.{Yes, No, GivenUp}
use Rattle.words.specs.declared.quantifier.Quantifier.{Quantifier}
use Rattle.words.specs.declared.quantifier.Quantifier.TheVariants.{Exists, ForAll}

abbrev pub before_of : Quantifier → Answer
before_of ForAll = Yes
before_of Exists = No

abbrev pub join_of : Quantifier → Answer → Answer → Answer
join_of Exists Yes b = Yes
join_of Exists No b = b
join_of Exists GivenUp Yes = Yes
join_of Exists GivenUp No = GivenUp
join_of Exists GivenUp GivenUp = GivenUp
join_of ForAll Yes b = b
join_of ForAll No b = No
join_of ForAll GivenUp Yes = GivenUp
join_of ForAll GivenUp No = No
join_of ForAll GivenUp GivenUp = GivenUp

abbrev pub settled_of : Quantifier → Answer → Bool
settled_of Exists Yes = true
settled_of Exists No = false
settled_of Exists GivenUp = false
settled_of ForAll Yes = false
settled_of ForAll No = true
settled_of ForAll GivenUp = false
