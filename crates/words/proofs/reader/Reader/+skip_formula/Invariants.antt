use Rattle.words.proofs.reader.Reader.+skip_formula.Given as goal

abbrev pub decreases-skip_formula : goal.decreases-skip_formula
decreases-skip_formula l = l.depth
