-- The signs are inserted one by one.
use Rattle.std.proofs.Common.{◌≡◌, ◌++◌, sym, ap, add-one, arith}
use Rattle.text.specs.Sheet.{products}
use Rattle.text.proofs.Sheets.{same_words}
use Rattle.text.proofs.sheet.Sheet.multiply.Goals as goal

pub loop-turn-init : goal.loop-turn-init
unfolding products
loop-turn-init c xs ys begins held = held

pub loop-turn-preserved : goal.loop-turn-preserved
unfolding products
loop-turn-preserved c xs ys begins held =
    same_words _ _ _ (ap (λ n. xs ++ (products n ++ ys)) (sym (add-one c.loop-turn._turn)))
    (c.insert_kind.ensures xs (products c.loop-turn._turn ++ ys) begins (c.loop-turn.invariant xs ys begins held))

pub returns : goal.returns
returns c xs ys begins held =
    let n : c.loop-turn._turn ≡ c.args.times = omega (arith, c.loop-turn-test.false) in
    same_words _ _ _ (ap (λ k. xs ++ (products k ++ ys)) n) (c.loop-turn.invariant xs ys begins held)
