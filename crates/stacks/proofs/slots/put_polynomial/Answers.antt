use Rattle.std.proofs.Common.{◌≤◌, length, arith, w64}
use Rattle.std.proofs.lemmas.Int.{to_z_pos}
use Rattle.stacks.proofs.Fronts.{slot_written}
use Rattle.stacks.proofs.slots.put_polynomial.Goals as goal

pub returns : goal.returns
returns c =
    let few : length c.args.monomials.now ≤ 64 = c.requires.few in
    slot_written c.args.i _ c.args.monomials.now c.args.slots.now c.put.new.cells c.put-2.new.cells (to_z_pos w64 (length c.args.monomials.now) (omega arith))
    few c.requires.room c.put.ensures c.put-2.ensures
