-- The words are put at the end one by one.
use Rattle.std.proofs.Common.{◌≡◌, ◌+◌, ◌-◌, ◌≤◌, ◌++◌, length, get_or, pos, ap, arith, length-append, take_all, w64, SFits, rules}
use Rattle.std.proofs.lemmas.Int.{to_z-of_z}
use Rattle.text.proofs.Sheets.{same_words, repeated}
use Rattle.text.proofs.sheet.Sheet.repeat.Goals as goal

pub loop-i-preserved : goal.loop-i-preserved
loop-i-preserved c xs ys zs begins ends held =
    let fits : SFits w64 (get_or c.loop-i.self.words c.loop-i.i (pos 0)) = search rules in
    repeated c.loop-i.self c.put.new.self xs ys zs c.args.from c.args.to c.loop-i.i _ (pos 0) begins ends c.if-to-gt-CAPACITY.false c.loop-i.auto.i c.loop-i-test.true (to_z-of_z w64 _ fits)
    (c.loop-i.invariant xs ys zs begins ends held) c.put.ensures

pub returns : goal.returns
returns c xs ys zs begins ends held =
    let front : length (xs ++ ys) ≡ length xs + length ys = length-append xs ys in
    let k : length ys ≤ c.loop-i.i - c.args.from = omega (arith, c.if-to-gt-CAPACITY.false, c.loop-i-test.false) in
    same_words _ _ _ (ap (λ l. xs ++ (ys ++ (zs ++ l))) (take_all (c.loop-i.i - c.args.from) ys k))
    (c.loop-i.invariant xs ys zs begins ends held)
