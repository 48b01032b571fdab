-- By the lemma on misfits.
use Rattle.grammar.proofs.Misfits.{refused_for_good}
use Rattle.grammar.proofs.laws.refused_for_good_stands.Goals as goal

pub returns : goal.returns
returns c = refused_for_good
