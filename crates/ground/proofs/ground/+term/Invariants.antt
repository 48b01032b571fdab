use Rattle.ground.proofs.ground.+term.Given as goal

abbrev pub decreases-term : goal.decreases-term
decreases-term l = l.depth
