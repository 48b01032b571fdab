-- What is left of the text, with the numbers found so far, reads as the whole does.
use Rattle.std.proofs.Common.{◌≡◌, drop, vec_items}
use Rattle.word_text.specs.Scan.{scanned, numbers_of}
use Rattle.word_text.proofs.scan.numbers.Given as goal

abbrev pub invariant-loop-byte : goal.invariant-loop-byte
invariant-loop-byte l = scanned (drop l.byte-index l.text) l.place (vec_items l.found) ≡ numbers_of l.text
