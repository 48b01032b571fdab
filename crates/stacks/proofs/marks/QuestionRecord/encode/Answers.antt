use Rattle.std.proofs.Common.{◌≡◌, length, arith}
use Rattle.stacks.proofs.Trips.{question_back}
use Rattle.stacks.proofs.marks.QuestionRecord.encode.Goals as goal

pub returns : goal.returns
returns c =
    let marks : length c.encode.new.cells ≡ 7 = omega (arith, c.encode.auto.cells, c.split_at_mut-marks.ensures.front_len) in
    let branch : length c.encode-2.new.cells ≡ 3 = omega (arith, c.encode-2.auto.cells, c.split_at_mut-marks.ensures.back_len) in
    question_back c.args.self _ _ marks branch c.encode.ensures c.encode-2.ensures
