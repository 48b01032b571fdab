-- The intermediate value property in either direction: between two places a polynomial attains every value between its values there.
use mathlib.Core.Path.{◌≡◌, sym, ◌∙◌, ap}
use mathlib.Core.List.{List, [], ◌∷◌}
use Rattle.field.specs.Field.{RealClosedField, horner}
use Rattle.field.specs.declared.sign.Sign.{Sign}
use Rattle.field.specs.declared.sign.Sign.TheVariants.{Neg, Zero, Pos}
use Rattle.field.specs.Order.{NotZero, To}
use Rattle.field.specs.Sign.{flip}
use Rattle.field.proofs.Ring.{ring, neg_neg, neg_zero, zero_add}
use Rattle.field.proofs.Signs.{flip-flip}
use Rattle.field.proofs.Order.{to_turn, sign-neg_of}
use Rattle.roots.specs.Value.{value}

module _ {R : Type 0} (f : RealClosedField R) where
  open f use {zero as 𝟘, add as ◌+◌, mul as ◌*◌, neg as -◌, sign}

  infixl 60 ◌+◌
  infixl 70 ◌*◌
  infix 80 -◌
  -- the coefficients of - p, and of p - l
  negated : List R → List R
  negated [] = []
  negated (c ∷ cs) = - c ∷ negated cs

  lowered : R → List R → List R
  lowered l [] = - l ∷ []
  lowered l (c ∷ cs) = (c + - l) ∷ cs

  value-negated : (cs : List R) (x : R) → value f (negated cs) x ≡ - value f cs x
  unfolding horner negated
  value-negated [] x = simp ring
  value-negated (c ∷ cs) x =
      let step : (v : R) → - c + x * - v ≡ - (c + x * v) = λ v. simp ring in
      ap (λ w. - c + x * w) (value-negated cs x) ∙ step (value f cs x)

  value-lowered : (l : R) (cs : List R) (x : R) → value f (lowered l cs) x ≡ value f cs x + - l
  unfolding horner lowered
  value-lowered l [] x = simp ring
  value-lowered l (c ∷ cs) x =
      let step : (v : R) → (c + - l) + x * v ≡ (c + x * v) + - l = λ v. simp ring in
      step (value f cs x)

  -- what is between a and b in the direction e, with the value zero
  abbrev RootBetween : Sign → List R → R → R → Type 0
  RootBetween e cs a b = (c : R) × To f e a c × To f e c b × (value f cs c ≡ 𝟘)

  rising-root : (cs : List R) (e : Sign) → NotZero e → (a b : R) → To f e a b → sign (value f cs a) ≡ flip e → sign (value f cs b) ≡ e → RootBetween e cs a b
  rising-root cs Neg n a b p q r =
      let (c, u, v, w) = f.root cs b a (to_turn f Neg a b p) r q in
      (c, to_turn f Pos c a v, to_turn f Pos b c u, w)
  rising-root cs Zero n a b p q r = absurd n
  rising-root cs Pos n a b p q r = f.root cs a b p q r

  falling_root : (cs : List R) (e : Sign) → NotZero e → (a b : R) → To f e a b → sign (value f cs a) ≡ e → sign (value f cs b) ≡ flip e → RootBetween e cs a b
  falling_root cs e n a b p q r =
      let (c, u, v, w) = rising-root (negated cs) e n a b p
      (ap sign (value-negated cs a) ∙ sign-neg_of f e (value f cs a) q)
      (ap sign (value-negated cs b) ∙ sign-neg_of f (flip e) (value f cs b) r ∙ flip-flip e) in
      (c, u, v, sym (neg_neg f (value f cs c)) ∙ ap -◌ (sym (value-negated cs c) ∙ w) ∙ neg_zero f)

  -- opposite signs at two places: a root between them
  pub root-between : (e s : Sign) → NotZero e → NotZero s → (cs : List R) (a b : R) → To f e a b →
      sign (value f cs a) ≡ s → sign (value f cs b) ≡ flip s → (c : R) × To f e a c × To f e c b × (value f cs c ≡ 𝟘)
  root-between Neg Neg n m cs a b p q r = falling_root cs Neg n a b p q r
  root-between Neg Pos n m cs a b p q r = rising-root cs Neg n a b p q r
  root-between Pos Neg n m cs a b p q r = rising-root cs Pos n a b p q r
  root-between Pos Pos n m cs a b p q r = falling_root cs Pos n a b p q r
  root-between Zero s n m cs a b p q r = absurd n
  root-between Neg Zero n m cs a b p q r = absurd m
  root-between Pos Zero n m cs a b p q r = absurd m

  -- a value between those at two places is attained between them
  pub between_attained : (e s : Sign) → NotZero e → NotZero s → (cs : List R) (l a b : R) → To f e a b →
      To f s l (value f cs a) → To f (flip s) l (value f cs b) → (c : R) × To f e a c × To f e c b × (value f cs c ≡ l)
  between_attained e s n m cs l a b p q r =
      let (c, u, v, w) = root-between e s n m (lowered l cs) a b p (ap sign (value-lowered l cs a) ∙ q) (ap sign (value-lowered l cs b) ∙ r) in
      let step : (v : R) → v ≡ (v + - l) + l = λ v. simp ring in
      (c, u, v, step (value f cs c) ∙ ap (λ w. w + l) (sym (value-lowered l cs c) ∙ w) ∙ zero_add f l)
