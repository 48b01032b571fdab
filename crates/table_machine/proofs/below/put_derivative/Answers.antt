use Rattle.std.proofs.Common.{◌≡◌, ◌≤◌, length, take, drop, refl, sym, ap, ◌∙◌, arith}
use Rattle.std.proofs.lemmas.Result.{err_from_is_err_and}
use Rattle.terms.specs.LeadingTerms.{derivative_terms}
use Rattle.terms.specs.Cells.{cells_of}
use Rattle.wide.specs.Written.{written}
use Rattle.table_machine.proofs.Deriving.{derived, not_derived, pushed-part, below-kept, length-cells}
use Rattle.table_machine.proofs.below.put_derivative.Goals as goal

pub part-requires : goal.part-requires
part-requires c =
    let p = c.in_ok-len.ensures.stored in
    omega (arith, c.top-mark.ensures, p.grown.higher, p.counted, length-cells (written c.derivative.new.self.front))

pub put_polynomial-requires-clause-few : goal.put_polynomial-requires-clause-few
put_polynomial-requires-clause-few c =
    let p = c.in_ok-len.ensures.stored in
    let ts = written c.derivative.new.self.front in
    let top = c.args.arena.now.top in
    let packed = c.pack.new.arena.cells.now in
    let is : c.part.result.now ≡ cells_of ts =
    c.part.ensures ∙ ap (λ k. take c.in_ok-len.len (drop k packed)) c.top-mark.ensures ∙
    pushed-part (cells_of ts) c.args.arena.now.cells.now packed top c.pack.new.arena.top c.in_ok-len.len p.grown (p.counted ∙ sym (length-cells ts)) c.args.arena.now.within in
    let few : length c.part.result.now ≡ length (cells_of ts) = ap length is in
    let short : length (cells_of ts) ≤ 64 = p.good.short in omega arith

pub returns-in_err-len-clause-derives : goal.returns-in_err-len-clause-derives
returns-in_err-len-clause-derives c =
    let e = err_from_is_err_and c.from_residual.result c.from_residual.ensures.1 in
    let p = c.in_err-len.ensures.stored in
    let n = c.args.others.count in
    rw (e.1) (not_derived n c.args.slots.now c.args.front.slot c.args.front.count (written c.derivative.new.self.front) c.requires.few c.requires.hold (c.derivative.ensures.value ∙ ap (derivative_terms n) c.view.ensures) p.0, refl)

pub returns : goal.returns
returns c =
    let p = c.in_ok-len.ensures.stored in
    let ts = written c.derivative.new.self.front in
    let top = c.args.arena.now.top in
    let cells = c.args.arena.now.cells.now in
    let packed = c.pack.new.arena.cells.now in
    let n = c.args.others.count in
    let back : c.release.new.self.top ≡ top = c.release.ensures.top ∙ c.top-mark.ensures in
    record {
      derives = derived n c.args.slots.now c.args.front.slot c.args.front.count c.args.to c.put_polynomial.new.slots ts c.in_ok-len.len top cells c.pack.new.arena.top packed
          c.part.result.now c.requires.few c.requires.hold (c.derivative.ensures.value ∙ ap (derivative_terms n) c.view.ensures) p c.args.arena.now.within
          (c.part.ensures ∙ ap (λ k. take c.in_ok-len.len (drop k packed)) c.top-mark.ensures) c.put_polynomial.ensures (length-cells ts);
      arena = (
        back,
        ap (λ k. take k c.release.new.self.cells.now) back ∙ ap (take top) c.release.ensures.cells ∙ below-kept (cells_of ts) cells packed top c.pack.new.arena.top p.grown c.args.arena.now.within,
      );
    }
