-- Both parts take one more.
use Rattle.std.proofs.Common.{[], ◌∷◌, ◌++◌, nat_abs, sym, ap, ◌∙◌, arith, length-set, w64, SFits, to_z, rules}
use Rattle.std.proofs.lemmas.Int.{to_z-of_z, to_z_pos}
use Rattle.terms.specs.Monomial.{monomial}
use Rattle.wide.specs.Written.{written}
use Rattle.wide.proofs.Pairs.{written_more}
use Rattle.wide.proofs.Written.{written-length}
use Rattle.wide.proofs.wide.Wide.push.Goals as goal

pub bounds-self-self : goal.bounds-self-self
bounds-self-self c = omega (arith, written-length c.args.self.now, c.requires.0, c.args.self.now.enough)

pub bounds-self-self-2 : goal.bounds-self-self-2
bounds-self-self-2 c = omega (arith, written-length c.args.self.now, c.requires.0, c.args.self.now.alike)

pub invariant_of-self-2 : goal.invariant_of-self-2
invariant_of-self-2 c = record {
  within = omega (arith, written-length c.args.self.now, c.requires.0);
  enough = length-set c.args.self.now.keys.now c.args.self.now.len (to_z w64 c.args.term.key) ∙ c.args.self.now.enough;
  alike = search rules;
}

pub returns : goal.returns
returns c =
    let w = c.args.self.now in
    let f : SFits w64 c.args.term.coefficient = search rules in
    written_more w.len w.keys.now w.coefficients.now c.args.term.key _ (to_z w64 c.args.term.key) (w.enough ∙ sym w.alike)
    (omega (arith, written-length w, c.requires.0, w.enough)) (ap nat_abs (to_z_pos w64 c.args.term.key c.requires.1)) ∙
    ap (λ x. written w ++ monomial c.args.term.key x ∷ []) (to_z-of_z w64 c.args.term.coefficient f)
