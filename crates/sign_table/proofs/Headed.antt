-- Polynomials whose leading coefficient isn't zero, where the other variables have the values e. Assumes nothing.
use mathlib.Core.Path.{◌≡◌, refl, sym, ◌∙◌, ap, subst}
use mathlib.Core.List.{List, [], ◌∷◌}
use Prim.Native.Nat.{suc, ◌≤◌}
use lib.ListN.{length}
use Rattle.field.specs.declared.sign.Sign.{Sign}
use Rattle.field.specs.declared.sign.Sign.TheVariants.{Zero, Pos}
use Rattle.field.specs.Field.{RealClosedField}
use Rattle.field.specs.Order.{NotZero}
use Rattle.field.proofs.Signs.{not_zero_apart}
use Rattle.roots.specs.Value.{leading as leading_number}
use Rattle.roots.specs.Interval.{End, Inside, Ordered}
use Rattle.roots.proofs.NotZeroAllOver.{not_zero_somewhere}
use Rattle.poly.specs.Poly.{Poly}
use Rattle.poly.specs.Leading.{last_or, leading, derivative, degree}
use Rattle.poly.specs.Value.{value, Depth, coefficients_at}
use Rattle.poly.proofs.Depth.{Depth-derivative}
use Rattle.poly.proofs.Values.{value_horner}
use Rattle.poly.proofs.Leading.{last_leading, sign_leading_derivative}
use Rattle.sign_table.specs.Leadings.{Left, Plain, Real}
use Rattle.sign_table.proofs.Lefts.{DepthLeft}

module _ {R : Type 0} (f : RealClosedField R) (e : List R) where
  open f use {zero as 𝟘, sign}

  -- the leading coefficient of q has the sign s, not zero
  pub record HasLeading (q : Poly) (s : Sign) : Type 0 where
    pub depth : Depth (suc (length e)) q
    pub not_zero : NotZero s
    pub is : sign (value f (leading (length e) q) e) ≡ s

  abbrev pub Headed : Left → Type 0
  Headed (Plain s) = ⊥
  Headed (Real q s) = HasLeading q s

  -- and q isn't constant
  abbrev pub HeadedReal : Left → Type 0
  HeadedReal (Plain s) = ⊥
  HeadedReal (Real q s) = HasLeading q s × (1 ≤ degree q)

  pub headed_depth : (l : Left) → Headed l → DepthLeft (length e) l
  headed_depth (Plain s) h = absurd h
  headed_depth (Real q s) h = h.depth

  pub real_headed : (l : Left) → HeadedReal l → Headed l
  real_headed (Plain s) h = h
  real_headed (Real q s) h = h.0

  leading_last : (cs : List R) → leading_number f cs ≡ last_or 𝟘 cs
  unfolding leading_number last_or
  leading_last [] = refl
  leading_last (c ∷ []) = refl
  leading_last (c ∷ d ∷ cs) = leading_last (d ∷ cs)

  pub not_zero_within : (q : Poly) (s : Sign) → HasLeading q s → (l r : End R) → Ordered f Pos l r →
      (x : R) × Inside f Pos l r x × (sign (value f q (x ∷ e)) ≡ Zero → ⊥)
  not_zero_within q s h l r o =
      let found = not_zero_somewhere f Pos tt (coefficients_at f e q) l r o
      (λ z. not_zero_apart s h.not_zero (sym h.is ∙ ap sign (sym (leading_last (coefficients_at f e q) ∙ last_leading f (length e) e q)) ∙ z)) in
      (found.0, found.1, λ z. found.2 (ap sign (sym (value_horner f (length e) e found.0 q h.depth)) ∙ z))

  pub derivative-headed : (p : Poly) (s : Sign) → HasLeading p s → 1 ≤ degree p → HasLeading (derivative (length e) p) s
  derivative-headed p s h k =
      record {
        depth = Depth-derivative (length e) p h.depth;
        not_zero = h.not_zero;
        is = sign_leading_derivative f e p h.depth k (subst NotZero (sym h.is) h.not_zero) ∙ h.is;
      }
