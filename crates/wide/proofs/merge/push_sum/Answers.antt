-- A sum that is zero is left out.
use Rattle.std.proofs.Common.{◌≡◌, false, [], ◌∷◌, ◌++◌, ◌+ℤ◌, sym, ap, ◌∙◌, subst, ap₂, append-nil, w64, SFits, to_z, of_z, rules}
use Rattle.std.proofs.lemmas.Int.{to_z-of_z}
use Rattle.poly.specs.Poly.{is_zero_number}
use Rattle.terms.specs.Monomial.{monomial}
use Rattle.packed.proofs.Places.{mag_small}
use Rattle.wide.specs.Written.{written}
use Rattle.wide.proofs.Bounds.{from_size, zero_bits, other_bits}
use Rattle.wide.proofs.Merging.{put_none, put_one}
use Rattle.wide.proofs.merge.push_sum.Goals as goal

pub returns-then-sum-ne0 : goal.returns-then-sum-ne0
returns-then-sum-ne0 c =
    let f : SFits w64 c.args.left.coefficient = search rules in
    let g : SFits w64 c.args.right.coefficient = search rules in
    let e = ap₂ ◌+ℤ◌ (to_z-of_z w64 _ f) (to_z-of_z w64 _ g) in
    let z = subst (λ s. is_zero_number s ≡ false) e (other_bits (to_z w64 (of_z w64 c.args.left.coefficient) +ℤ to_z w64 (of_z w64 c.args.right.coefficient)) c.if-sum-ne0.true) in
    c.push.ensures ∙
    ap (λ x. written c.args.out.now ++ monomial c.args.left.key x ∷ []) (ap (λ s. to_z w64 (of_z w64 s)) e ∙ from_size _ c.requires.size) ∙
    ap (λ w. written c.args.out.now ++ w) (sym (put_one (monomial c.args.left.key (c.args.left.coefficient +ℤ c.args.right.coefficient)) z))

pub returns-else-sum-ne0 : goal.returns-else-sum-ne0
returns-else-sum-ne0 c =
    let f : SFits w64 c.args.left.coefficient = search rules in
    let g : SFits w64 c.args.right.coefficient = search rules in
    let e = ap₂ ◌+ℤ◌ (to_z-of_z w64 _ f) (to_z-of_z w64 _ g) in
    let z = zero_bits (c.args.left.coefficient +ℤ c.args.right.coefficient) (mag_small (c.args.left.coefficient +ℤ c.args.right.coefficient) c.requires.size) (ap (of_z w64) (sym e) ∙ c.if-sum-ne0.false) in
    sym (append-nil (written c.args.out.now)) ∙
    ap (λ w. written c.args.out.now ++ w) (sym (put_none (monomial c.args.left.key (c.args.left.coefficient +ℤ c.args.right.coefficient)) z))
