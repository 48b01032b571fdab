-- The number at a place is the monomial at that place.
use Rattle.std.proofs.Common.{◌≡◌, ◌-◌, ◌^◌, ◌<◌, length, get_or, pos, sym, ap, ◌∙◌, subst, arith, w64, SFits, rules}
use Rattle.std.proofs.lemmas.Int.{to_z-of_z}
use Rattle.poly.specs.Modest.{magnitude}
use Rattle.terms.specs.Monomial.{Monomial}
use Rattle.terms.specs.Cells.{monomial_of}
use Rattle.packed.specs.Terms.{terms_in, term_at, monomial_in}
use Rattle.packed.proofs.Places.{length-monomials, monomial_at, key_at, size_at}
use Rattle.packed.proofs.Lowered.{view-keys, view-sizes}
use Rattle.packed.proofs.view.View.term.Goals as goal

pub offset_bounds-self-i : goal.offset_bounds-self-i
offset_bounds-self-i c = omega (arith, length-monomials c.args.self.now.cells.now)

pub bounds-self-i : goal.bounds-self-i
bounds-self-i c = omega (arith, length-monomials c.args.self.now.cells.now)

pub returns : goal.returns
returns c =
    let l : c.args.i < length c.args.self.now.cells.now = omega (arith, length-monomials c.args.self.now.cells.now) in
    let f : SFits w64 (get_or c.args.self.now.cells.now c.args.i (pos 0)) = search rules in
    let e : monomial_in c.from.result ≡ term_at (terms_in c.args.self.now) c.args.i =
    ap monomial_in c.from.ensures ∙ ap monomial_of (to_z-of_z w64 _ f) ∙ sym (monomial_at c.args.self.now.cells.now c.args.i l) in
    let Low : Monomial → Type 0 = λ m. m.key < 2 ^ 19 in
    let Small : Monomial → Type 0 = λ m. magnitude m.times < 2 ^ 27 in
    record {
      value = e;
      key = subst Low (sym e) (key_at (2 ^ 19) (terms_in c.args.self.now) c.args.i (view-keys c.args.self.now) c.requires);
      size = subst Small (sym e) (omega (arith, size_at (2 ^ 27 - 1) (terms_in c.args.self.now) c.args.i (view-sizes c.args.self.now) c.requires));
    }
