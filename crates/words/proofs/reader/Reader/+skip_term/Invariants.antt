use Rattle.words.proofs.reader.Reader.+skip_term.Given as goal

abbrev pub decreases-skip_term : goal.decreases-skip_term
decreases-skip_term l = l.depth
