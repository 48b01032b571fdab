-- Intervals: numbers in them, and a bounded interval in each.
use mathlib.Core.Path.{◌≡◌, refl, subst}
use mathlib.Core.Logic.{◌⊎◌, inl, inr}
use Rattle.field.specs.declared.sign.Sign.{Sign}
use Rattle.field.specs.Field.{RealClosedField}
use Rattle.field.specs.Order.{To}
use Rattle.field.specs.Sign.{flip}
use Rattle.field.proofs.Signs.{flip-flip}
use Rattle.field.proofs.Order.{to_turn, to_trans, between, beyond}
use Rattle.roots.specs.Interval.{UpTo, End, Open, At, After, Before, Inside, Ordered}

module _ {R : Type 0} (f : RealClosedField R) where
  -- x is the end itself or lies on the interval's side of it
  abbrev pub AtOrAfter : Sign → End R → R → Type 0
  AtOrAfter e Open x = Unit {0}
  AtOrAfter e (At a) x = (x ≡ a) ⊎ To f e a x

  abbrev pub AtOrBefore : Sign → End R → R → Type 0
  AtOrBefore e Open x = Unit {0}
  AtOrBefore e (At b) x = UpTo f e b x

  pub to_turn-back : (e : Sign) (a b : R) → To f (flip e) a b → To f e b a
  to_turn-back e a b p = subst (λ s. To f s b a) (flip-flip e) (to_turn f (flip e) a b p)

  pub at_or_after : (e : Sign) (l : End R) (x : R) → After f e l x → AtOrAfter e l x
  at_or_after e Open x p = tt
  at_or_after e (At a) x p = inr p

  pub at_or_before : (e : Sign) (r : End R) (x : R) → Before f e r x → AtOrBefore e r x
  at_or_before e Open x p = tt
  at_or_before e (At b) x p = inr p

  pub after_trans : (e : Sign) (l : End R) (x y : R) → AtOrAfter e l x → To f e x y → After f e l y
  after_trans e Open x y p q = tt
  after_trans e (At a) x y (inl p) q = subst (λ w. To f e w y) p q
  after_trans e (At a) x y (inr p) q = to_trans f e a x y p q

  pub before-trans : (e : Sign) (r : End R) (x y : R) → To f e x y → AtOrBefore e r y → Before f e r x
  before-trans e Open x y p q = tt
  before-trans e (At b) x y p (inl q) = subst (λ w. To f e x w) q p
  before-trans e (At b) x y p (inr q) = to_trans f e x y b p q

  pub ordered_turn : (e : Sign) (l r : End R) → Ordered f e l r → Ordered f (flip e) r l
  ordered_turn e Open Open o = tt
  ordered_turn e Open (At b) o = tt
  ordered_turn e (At a) Open o = tt
  ordered_turn e (At a) (At b) o = to_turn f e a b o

  after_turn : (e : Sign) (l : End R) (x : R) → After f e l x → Before f (flip e) l x
  after_turn e Open x p = tt
  after_turn e (At a) x p = to_turn f e a x p

  before-turn : (e : Sign) (r : End R) (x : R) → Before f e r x → After f (flip e) r x
  before-turn e Open x p = tt
  before-turn e (At b) x p = to_turn f e x b p

  pub inside-turn : (e : Sign) (l r : End R) (x : R) → Inside f e l r x → Inside f (flip e) r l x
  inside-turn e l r x i = (before-turn e r x i.1, after_turn e l x i.0)

  -- two ordered numbers with all between them in the interval
  pub bounded_part : (e : Sign) (l r : End R) → Ordered f e l r →
      (a : R) × (b : R) × To f e a b × AtOrAfter e l a × AtOrBefore e r b
  bounded_part e Open Open o = let (b, p) = beyond f e f.zero in (f.zero, b, p, tt, tt)
  bounded_part e Open (At b) o = let (a, p) = beyond f (flip e) b in (a, b, to_turn-back e b a p, tt, inl refl)
  bounded_part e (At a) Open o = let (b, p) = beyond f e a in (a, b, p, inl refl, tt)
  bounded_part e (At a) (At b) o = (a, b, o, inl refl, inl refl)

  pub part-inside : (e : Sign) (l r : End R) (a b x : R) → AtOrAfter e l a → AtOrBefore e r b → To f e a x → To f e x b → Inside f e l r x
  part-inside e l r a b x p q u v = (after_trans e l a x p u, before-trans e r x b v q)

  pub inhabited : (e : Sign) (l r : End R) → Ordered f e l r → (x : R) × Inside f e l r x
  inhabited e l r o =
      let (a, b, a-b, p, q) = bounded_part e l r o in
      let (x, a_x, x-b) = between f e a b a-b in
      (x, part-inside e l r a b x p q a_x x-b)
