use Rattle.question.proofs.follow.+follow_below.Given as goal

abbrev pub decreases-follow_below : goal.decreases-follow_below
decreases-follow_below l = l.limit
