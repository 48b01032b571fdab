-- Zero has no monomial.
use Rattle.std.proofs.Common.{not, T, [], ◌∷◌, ◌++◌, sym, ap, ◌∙◌, subst, arith, w64, to_z, of_z}
use Rattle.std.proofs.lemmas.Int.{to_z-of_z}
use Rattle.terms.specs.Monomial.{monomial}
use Rattle.wide.proofs.Bounds.{zero_bits, other_bits}
use Rattle.wide.proofs.Rising.{one-rising, none_rising}
use Rattle.wide.proofs.Slopes.{constant_zero, constant_other}
use Rattle.wide.proofs.scratch.Scratch.number.Goals as goal

pub returns-then-number-ne0 : goal.returns-then-number-ne0
returns-then-number-ne0 c =
    let z = other_bits c.args.number c.if-number-ne0.true in
    let e =
    c.push.ensures ∙ ap (λ w. w ++ monomial 0 (to_z w64 (of_z w64 c.args.number)) ∷ []) c.clear.ensures ∙
    ap (λ x. monomial 0 x ∷ []) (to_z-of_z w64 c.args.number c.ranges.number) in
    record {
      value = e ∙ sym (constant_other c.args.number z);
      rising = one-rising 0 c.args.number _ e (omega arith) (subst (λ t. T (not t)) (sym z) tt);
    }

pub returns-else-number-ne0 : goal.returns-else-number-ne0
returns-else-number-ne0 c =
    record {
      value = c.clear.ensures ∙ sym (constant_zero c.args.number (zero_bits c.args.number c.ranges.number.sfits c.if-number-ne0.false));
      rising = none_rising _ c.clear.ensures;
    }
