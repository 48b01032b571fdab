-- A sign that is constant beside c is the sign at c, unless that is zero.
use mathlib.Core.Path.{◌≡◌, refl, sym, ◌∙◌}
use mathlib.Core.Logic.{◌⊎◌, inl, inr}
use mathlib.Core.List.{List}
use Rattle.field.specs.declared.sign.Sign.{Sign}
use Rattle.field.specs.declared.sign.Sign.TheVariants.{Zero}
use Rattle.field.specs.Field.{RealClosedField}
use Rattle.field.specs.Order.{NotZero}
use Rattle.field.specs.Sign.{flip}
use Rattle.field.proofs.Signs.{decide-sign, not_zero, not_zero_apart, flip_not_zero, zero_or_flip}
use Rattle.field.proofs.Order.{zero_sign}
use Rattle.roots.specs.Value.{value}
use Rattle.roots.specs.Interval.{End, At, Inside, Ordered}
use Rattle.roots.specs.Analysis.{ValueSign}
use Rattle.roots.proofs.Attained.{root-between}
use Rattle.roots.proofs.Inside.{at_or_before, before-trans, inhabited}
use Rattle.roots.proofs.NotZeroAllOver.{zero_everywhere}

module _ {R : Type 0} (f : RealClosedField R) where
  open f use {sign}

  pub no_jump : (e t : Sign) → NotZero e → (cs : List R) (c : R) (r : End R) → Ordered f e (At c) r → ValueSign f e t cs (At c) r →
      (sign (value f cs c) ≡ Zero → ⊥) → sign (value f cs c) ≡ t
  no_jump e t n cs c r o beside other = go (decide-sign t u)
    where
      u : Sign
      u = sign (value f cs c)

      u_not_zero : NotZero u
      u_not_zero = not_zero u other

      go : Dec (t ≡ u) → u ≡ t
      go (yes p) = sym p
      go (no p) = absurd (jump (zero_or_flip u t u_not_zero p))
        where
          -- zero beside c is zero at c; an opposite sign beside c has a root before it
          jump : (t ≡ Zero) ⊎ (t ≡ flip u) → ⊥
          jump (inl z) = other (zero_sign f (value f cs c) (zero_everywhere f e n cs (At c) r o (λ x i. beside x i ∙ z) c))
          jump (inr q) =
              let (x, i) = inhabited f e (At c) r o in
              let (w, c-w, w-x, root) = root-between f e u n u_not_zero cs c x i.0 refl (beside x i ∙ q) in
              let w-inside : Inside f e (At c) r w = (c-w, before-trans f e r w x w-x (at_or_before f e r x i.1)) in
              not_zero_apart (flip u) (flip_not_zero u u_not_zero) (sym q ∙ sym (beside w w-inside) ∙ zero_sign f (value f cs w) root)
