use Rattle.ground.proofs.ground.+formula.Given as goal

abbrev pub decreases-formula : goal.decreases-formula
decreases-formula l = l.depth
