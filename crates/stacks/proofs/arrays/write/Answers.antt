-- A value's numbers are written over its part of the array.
use Rattle.std.proofs.Common.{◌≡◌, ◌+◌, ◌*◌, ◌-◌, length, arith}
use Rattle.std.proofs.lemmas.Grind.{common_steps}
use Rattle.stacks.proofs.Puts.{written_mid}
use Rattle.stacks.proofs.arrays.write.Goals as goal

pub returns : goal.returns
returns g c =
    let few : c.WIDTH.result * c.args.i + c.WIDTH-2.result - c.WIDTH.result * c.args.i ≡ g.T.Record.WIDTH = omega (arith, c.WIDTH-2.ensures) in
    let long : length c.encode.new.cells ≡ g.T.Record.WIDTH = grind (arith, common_steps, c.encode.auto.cells) in
    written_mid g.T.Record.WIDTH g.T.Record.value_of c.args.i _ c.args.cells.now c.args.value _ _ c.WIDTH.ensures few long c.requires c.encode.ensures
