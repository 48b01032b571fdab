-- The words are repeated again and again.
use Rattle.std.proofs.Common.{◌≡◌, ◌++◌, sym, ap, append-nil, add-one, arith}
use Rattle.text.specs.Sheet.{copies}
use Rattle.text.proofs.Sheets.{same_words}
use Rattle.text.proofs.sheet.Sheet.copy.Goals as goal

pub loop-turn-init : goal.loop-turn-init
unfolding copies
loop-turn-init c xs ys begins ends held = same_words _ _ _ (ap (λ l. xs ++ l) (sym (append-nil ys))) held

pub loop-turn-preserved : goal.loop-turn-preserved
unfolding copies
loop-turn-preserved c xs ys begins ends held =
    same_words _ _ _ (ap (λ n. xs ++ (ys ++ copies n ys)) (sym (add-one c.loop-turn._turn)))
    (c.repeat.ensures xs ys (copies c.loop-turn._turn ys) begins ends (c.loop-turn.invariant xs ys begins ends held))

pub returns : goal.returns
returns c xs ys begins ends held =
    let n : c.loop-turn._turn ≡ c.args.times = omega (arith, c.loop-turn-test.false) in
    same_words _ _ _ (ap (λ k. xs ++ (ys ++ copies k ys)) n) (c.loop-turn.invariant xs ys begins ends held)
