-- The cells are put on top one after the other.
use Rattle.std.proofs.Common.{◌-◌, ◌^◌, T, [], ◌∷◌, ◌++◌, length, sym, refl, ap, ◌∙◌, subst, append-nil, append_assoc, arith, length-append}
use Rattle.terms.specs.Sizes.{KeysBelow, SizesAtMost}
use Rattle.terms.specs.Cells.{cell_of, cells_of}
use Rattle.terms.proofs.Bounds.{keys_rising}
use Rattle.terms.proofs.Modests.{modest_sizes}
use Rattle.packed.specs.Terms.{monomial_in}
use Rattle.packed.proofs.Places.{from_bits}
use Rattle.packed.proofs.Walked.{keys-next, sizes-next}
use Rattle.arena.specs.Growth.{Grown}
use Rattle.arena.proofs.Stores.{none_grown, grown_more}
use Rattle.wide.specs.Written.{written}
use Rattle.storage.proofs.ModestSteps.{modest-short}
use Rattle.storage.proofs.Cells.{length-cells, cells-next, cells_none, cells-back, cells-stored}
use Rattle.storage.proofs.pack.pack.Goals as goal

pub loop-term-init : goal.loop-term-init
loop-term-init c =
    let ts = written c.args.list.now in
    let all = c.into_iter-term-iterator.ensures.into_iter_gives ∙ c.terms-term-items.ensures in (
      [],
      ap cells_of all,
      none_grown c.args.arena.now.top c.args.arena.now.cells.now,
      refl,
      subst (KeysBelow (2 ^ 20)) (sym all) (keys_rising 0 (2 ^ 20) ts c.requires.rising),
      subst (SizesAtMost (2 ^ 27 - 1)) (sym all) (modest_sizes 4 ts (subst T c.if-not-is_modest.ensures tt)),
    )

pub cell-requires : goal.cell-requires
cell-requires c = (
  (keys-next (2 ^ 20) c.loop-term.term-iterator _ (monomial_in c.in-Some.term) c.in-Some.ensures.steps c.loop-term.invariant.4).0,
  omega (arith, (sizes-next (2 ^ 27 - 1) c.loop-term.term-iterator _ (monomial_in c.in-Some.term) c.in-Some.ensures.steps c.loop-term.invariant.5).0),
)

pub put-requires : goal.put-requires
put-requires c =
    let ts = written c.args.list.now in
    let done = c.loop-term.invariant.0 in
    let grown = c.loop-term.invariant.2 in
    let few = modest-short (2 ^ 20) ts c.requires.rising (subst T c.if-not-is_modest.ensures tt) in
    let one = ap length (cells-next c.loop-term.term-iterator _ (monomial_in c.in-Some.term) c.in-Some.ensures.steps) in
    omega (arith, grown.higher, grown.long, one, ap length c.loop-term.invariant.1, length-append done (cells_of c.loop-term.term-iterator), length-cells ts, few, c.requires.room)

pub loop-term-preserved : goal.loop-term-preserved
loop-term-preserved c =
    let done = c.loop-term.invariant.0 in
    let m = monomial_in c.in-Some.term in
    let read = from_bits c.cell.result c.cell.type_inv ∙ c.cell.ensures in (
      done ++ cell_of m ∷ [],
      append_assoc done (cell_of m ∷ []) (cells_of c.next.new.self) ∙
          ap (λ w. done ++ w) (sym (cells-next c.loop-term.term-iterator _ m c.in-Some.ensures.steps)) ∙ c.loop-term.invariant.1,
      grown_more done (cell_of m ∷ []) c.args.arena.now.top c.args.arena.now.cells.now c.loop-term.arena.top c.loop-term.arena.cells.now _ _ c.loop-term.invariant.2
          (subst (λ z. Grown (z ∷ []) c.loop-term.arena.top c.loop-term.arena.cells.now c.put.new.self.top c.put.new.self.cells.now) read c.put.ensures.stands),
      c.put.ensures.lent ∙ c.loop-term.invariant.3,
      (keys-next (2 ^ 20) c.loop-term.term-iterator _ m c.in-Some.ensures.steps c.loop-term.invariant.4).1,
      (sizes-next (2 ^ 27 - 1) c.loop-term.term-iterator _ m c.in-Some.ensures.steps c.loop-term.invariant.5).1,
    )

pub returns-clause-stored : goal.returns-clause-stored
returns-clause-stored c =
    let ts = written c.args.list.now in
    let done = c.loop-term.invariant.0 in
    let all = sym (append-nil done) ∙ ap (λ w. done ++ w) (sym (ap cells_of c.in-None.ensures.steps.0 ∙ cells_none)) ∙ c.loop-term.invariant.1 in
    record {
      modest = sym c.if-not-is_modest.ensures;
      counted = c.len.ensures;
      grown =
          subst (λ w. Grown w c.args.arena.now.top c.args.arena.now.cells.now c.loop-term.arena.top c.loop-term.arena.cells.now) all c.loop-term.invariant.2;
      good = cells-stored ts c.requires.rising (subst T c.if-not-is_modest.ensures tt);
      back = cells-back ts c.requires.rising;
    }
