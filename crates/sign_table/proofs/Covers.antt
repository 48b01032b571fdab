-- A right table covers the line, its rows are attained, and its points are just the roots. Assumes nothing.
use mathlib.Core.Path.{◌≡◌, sym, ◌∙◌, ap, subst}
use mathlib.Core.Logic.{inl, inr}
use mathlib.Core.List.{List, [], ◌∷◌}
use Prim.Native.Nat.{ℕ, suc}
use lib.ListN.{length}
use Rattle.field.specs.declared.sign.Sign.{Sign}
use Rattle.field.specs.declared.sign.Sign.TheVariants.{Zero, Pos}
use Rattle.field.specs.Field.{RealClosedField}
use Rattle.field.proofs.Order.{zero_sign}
use Rattle.roots.specs.Interval.{End, Open, Inside, Ordered}
use Rattle.roots.proofs.NotZeroAllOver.{zero_everywhere}
use Rattle.poly.specs.Poly.{Poly}
use Rattle.poly.specs.Value.{value, Depth, coefficients_at}
use Rattle.poly.proofs.Values.{value_horner}
use Rattle.sign_table.specs.Deduce.{first_sign, without_first_sign}
use Rattle.sign_table.specs.Meaning.{DepthAll}
use Rattle.sign_table.specs.Right.{Member, signs_at, Covered, Attained, HasSigns, SomeRoot, RootWithSigns, points}
use Rattle.sign_table.specs.Theorems.{RightCovers, RootsExactly}
use Rattle.sign_table.proofs.Along.{IntervalRow, RowAt, row_at, row_attained, point_row, points_rise}

pub member_depth : (n : ℕ) (ps : List Poly) (q : Poly) → Member q ps → DepthAll n ps → Depth n q
member_depth n [] q h d = absurd h
member_depth n (r ∷ ps) q (inl h) d = subst (Depth n) (sym h) d.0
member_depth n (r ∷ ps) q (inr h) d = member_depth n ps q h d.1

module _ {R : Type 0} (f : RealClosedField R) where
  open f use {zero as 𝟘, sign}

  pub right_covers : RightCovers f
  right_covers e ps m right = (covered, attained)
    where
      covered : Covered f e ps m
      covered x =
          let h = row_at f (HasSigns f e ps) (RootWithSigns f e ps) Open m right x tt in
          (h.0, h.1, elim h.2 [ inl u ↦ u.4 x u.3 | inr u ↦ u.1.0 ])

      attained : Attained f e ps m
      attained row h =
          let a = row_attained f (HasSigns f e ps) (RootWithSigns f e ps) Open m right row h in
          (a.0, elim a.1 [ inl u ↦ u | inr u ↦ u.0 ])

  -- a member of ps has one sign where all have
  pub member_signs : (e : List R) (ps : List Poly) (q : Poly) → Member q ps → (x y : R) → signs_at f ps (x ∷ e) ≡ signs_at f ps (y ∷ e) →
      sign (value f q (x ∷ e)) ≡ sign (value f q (y ∷ e))
  member_signs e [] q h x y p = absurd h
  member_signs e (r ∷ ps) q (inl h) x y p = subst (λ u. sign (value f u (x ∷ e)) ≡ sign (value f u (y ∷ e))) (sym h) (ap first_sign p)
  member_signs e (r ∷ ps) q (inr h) x y p = member_signs e ps q h x y (ap without_first_sign p)

  -- a polynomial that is zero on an interval is zero everywhere
  pub zero_on_interval : (e : List R) (q : Poly) → Depth (suc (length e)) q → (l r : End R) → Ordered f Pos l r →
      ((x : R) → Inside f Pos l r x → sign (value f q (x ∷ e)) ≡ Zero) → (x : R) → value f q (x ∷ e) ≡ 𝟘
  zero_on_interval e q d l r o h x =
      value_horner f (length e) e x q d
      ∙ zero_everywhere f Pos tt (coefficients_at f e q) l r o (λ y i. ap sign (sym (value_horner f (length e) e y q d)) ∙ h y i) x

  pub roots_exactly : RootsExactly f
  roots_exactly e ps d m right =
      (points_rise f (HasSigns f e ps) (RootWithSigns f e ps) Open m right, λ c. ((λ h. (point_row f (HasSigns f e ps) (RootWithSigns f e ps) Open m right c h).1.1), found c))
    where
      found : (c : R) → SomeRoot f e ps c → Member c (points f e ps m right)
      found c (q, q-in, root, (x, not_root)) = go (row_at f (HasSigns f e ps) (RootWithSigns f e ps) Open m right c tt)
        where
          -- a root within an interval would be a zero everywhere
          within : (row : List Sign) → IntervalRow f (HasSigns f e ps) c row → ⊥
          within row (l, r, o, i, on) =
              not_root (zero_on_interval e q (member_depth (suc (length e)) ps q q-in d) l r o
              (λ y j. member_signs e ps q q-in y c (on y j ∙ sym (on c i)) ∙ zero_sign f (value f q (c ∷ e)) root) x)

          go : RowAt f (HasSigns f e ps) (RootWithSigns f e ps) m (points f e ps m right) c →
              Member c (points f e ps m right)
          go h = elim h.2 [ inl u ↦ absurd (within h.0 u) | inr u ↦ u.0 ]
