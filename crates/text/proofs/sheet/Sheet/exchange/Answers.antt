-- What stands behind a place is turned.
use Rattle.std.proofs.Common.{◌≡◌, ◌+◌, ◌-◌, ◌++◌, length, ◌∙◌, arith, length-append}
use Rattle.text.proofs.Sheets.{replaced, turned}
use Rattle.text.proofs.sheet.Sheet.exchange.Goals as goal

pub returns-then-self-le-CAPACITY : goal.returns-then-self-le-CAPACITY
returns-then-self-le-CAPACITY c xs ys zs begins ends held =
    let counts = held.counted in
    let all : length (xs ++ (ys ++ zs)) ≡ length xs + length (ys ++ zs) = length-append xs (ys ++ zs) in
    let front : length (xs ++ ys) ≡ length xs + length ys = length-append xs ys in
    let back : length (ys ++ zs) ≡ length ys + length zs = length-append ys zs in
    let new : length (zs ++ ys) ≡ length zs + length ys = length-append zs ys in
    let k : c.args.middle - c.args.from ≡ length ys = omega arith in
    replaced c.args.self.now xs (ys ++ zs) (zs ++ ys) c.rotate_left.new.self c.args.from begins c.if-self-le-CAPACITY.true (omega arith)
    (λ mid. c.rotate_left.ensures.after ∙ turned ys zs _ (c.args.middle - c.args.from) k mid) held
