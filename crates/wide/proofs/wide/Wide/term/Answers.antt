-- A place of the list is that place of both parts.
use Rattle.std.proofs.Common.{get_or, pos, nat_abs, sym, ap, ◌∙◌, ap₂, arith, w64, SFits, rules}
use Rattle.std.proofs.lemmas.Int.{to_z-of_z}
use Rattle.terms.specs.Monomial.{monomial}
use Rattle.wide.proofs.Pairs.{written_at}
use Rattle.wide.proofs.Written.{written-length}
use Rattle.wide.proofs.wide.Wide.term.Goals as goal

pub returns : goal.returns
returns c =
    let w = c.args.self.now in
    let f : SFits w64 (get_or w.keys.now c.args.i (pos 0)) = search rules in
    let g : SFits w64 (get_or w.coefficients.now c.args.i (pos 0)) = search rules in
    ap₂ monomial (c.unsigned_abs.ensures.value ∙ ap nat_abs (to_z-of_z w64 _ f)) (to_z-of_z w64 _ g) ∙
    sym (written_at w.len w.keys.now w.coefficients.now c.args.i (w.enough ∙ sym w.alike) (omega (arith, w.within, w.enough)) (omega (arith, written-length w, c.requires)))
