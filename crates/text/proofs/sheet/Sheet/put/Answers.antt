-- The word is written where there is room.
use Rattle.std.proofs.Common.{w64}
use Rattle.std.proofs.lemmas.Int.{to_z-of_z}
use Rattle.text.proofs.Sheets.{put-fits}
use Rattle.text.proofs.sheet.Sheet.put.Goals as goal

pub returns-then-self-lt-CAPACITY : goal.returns-then-self-lt-CAPACITY
returns-then-self-lt-CAPACITY c xs held =
    put-fits c.args.self.now c.args.word _ xs (to_z-of_z w64 c.args.word c.ranges.word) c.if-self-lt-CAPACITY.true held
