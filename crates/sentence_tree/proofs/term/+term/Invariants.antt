use Rattle.std.proofs.Common.{◌+◌, ◌*◌}
use Rattle.sentence_tree.proofs.term.+term.Given as goal

abbrev pub decreases-term : goal.decreases-term
decreases-term l = 2 * l.depth

abbrev pub decreases-combine : goal.decreases-combine
decreases-combine l = 2 * l.depth + 1
