use Rattle.question.proofs.collect.+collect_below.Given as goal

abbrev pub decreases-collect_below : goal.decreases-collect_below
decreases-collect_below l = l.limit
