use Rattle.std.proofs.Common.{◌≡◌, drop}
use Rattle.grammar.specs.Reader.{run}
use Rattle.grammar.specs.Tokens.{exactly}
use Rattle.text.proofs.source.Source.exactly.Given as goal

abbrev pub invariant-loop-c : goal.invariant-loop-c
invariant-loop-c l =
    run (exactly l.characters) l.self.text.now l.initial.at ≡ run (exactly (drop l.c-index l.characters)) l.self.text.now l.at
