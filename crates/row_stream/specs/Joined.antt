-- Answers as the theory has them. Assumes nothing.
use Rattle.sign_table.specs.Tree.{Tree, Yes as YesTree, No as NoTree, GivenUp as GivenUpTree}
use Rattle.words.specs.declared.answer.Answer.{Answer}
use Rattle.words.specs.declared.answer.Answer.TheVariants.{Yes, No, GivenUp}

abbrev pub tree_of : Answer → Tree
tree_of Yes = YesTree
tree_of No = NoTree
tree_of GivenUp = GivenUpTree
