-- Where the slope has the sign s between a and b, the value goes from a to b in the direction e times s.
use mathlib.Core.Path.{◌≡◌, refl, sym, ◌∙◌, ap, subst}
use mathlib.Core.Logic.{inl, inr}
use mathlib.Core.List.{List}
use Rattle.field.specs.declared.sign.Sign.{Sign}
use Rattle.field.specs.Field.{RealClosedField}
use Rattle.field.specs.Order.{NotZero, To}
use Rattle.field.specs.Sign.{flip, times}
use Rattle.field.proofs.Ring.{ring}
use Rattle.field.proofs.Signs.{decide-sign, flip-flip, flip_not_zero, flip-times, times_not_zero}
use Rattle.field.proofs.Order.{to_turn, to_trans, to_trans_weak, to_apart, between, sign-mul_of}
use Rattle.roots.specs.Value.{value, slope, quotient}
use Rattle.roots.specs.Interval.{UpTo}
use Rattle.roots.proofs.Quotient.{value-quotient}
use Rattle.roots.proofs.Attained.{between_attained}
use Rattle.roots.proofs.FirstRoot.{first_root, slope_at, slope_at_root}

module _ {R : Type 0} (f : RealClosedField R) where
  open f use {add as ◌+◌, mul as ◌*◌, neg as -◌, sign}

  infixl 60 ◌+◌
  infixl 70 ◌*◌
  infix 80 -◌
  -- the slope has its sign at a, at b and between: the quotient at a keeps the sign that it has at a, or it has a first root, where the slope is wrong
  monotone-closed : (e s : Sign) → NotZero e → NotZero s → (cs : List R) (a b : R) → To f e a b → sign (slope f cs a) ≡ s →
      ((x : R) → To f e a x → UpTo f e b x → sign (slope f cs x) ≡ s) → To f (times e s) (value f cs a) (value f cs b)
  monotone-closed e s n m cs a b p at_a slopes = go (decide-sign (sign (value f q b)) s)
    where
      q : List R
      q = quotient f a cs

      go : Dec (sign (value f q b) ≡ s) → To f (times e s) (value f cs a) (value f cs b)
      go (yes y) =
          let difference : (v w : R) → (v + w) + - v ≡ w = λ v w. simp ring in
          ap sign (ap (λ w. w + - value f cs a) (value-quotient f a cs b) ∙ difference (value f cs a) ((b + - a) * value f q b)) ∙ sign-mul_of f e s (b + - a) (value f q b) p y
      go (no y) =
          let (c, u, v, z, w) = first_root f e s n m q a b p (ap sign (sym (slope_at f cs a)) ∙ at_a) y in
          absurd (w (sym (ap sign (slope_at_root f cs a c z) ∙ sign-mul_of f e (sign (slope f q c)) (c + - a) (slope f q c) u refl) ∙ slopes c u v))

  -- the slope has its sign strictly between a and b
  module _ (e s : Sign) (n : NotZero e) (m : NotZero s) (cs : List R) (a b : R) (p : To f e a b)
      (slopes : (x : R) → To f e a x → To f e x b → sign (slope f cs x) ≡ s) where
    monotone_inner : (x y : R) → To f e a x → To f e x y → To f e y b → To f (times e s) (value f cs x) (value f cs y)
    monotone_inner x y u v w = monotone-closed e s n m cs x y v (slopes x u (to_trans f e x y b v w)) inner
      where
        inner : (z : R) → To f e x z → UpTo f e y z → sign (slope f cs z) ≡ s
        inner z i (inl j) = slopes z (to_trans f e a x z u i) (subst (λ k. To f e k b) (sym j) w)
        inner z i (inr j) = slopes z (to_trans f e a x z u i) (to_trans f e z y b j w)

    -- else the value at z, between x and y, would be attained between a and x too
    monotone_half : (y : R) → To f e a y → To f e y b → To f (times e s) (value f cs a) (value f cs y)
    monotone_half y u v = go (decide-sign (sign (value f cs y + - value f cs a)) d)
      where
        d : Sign
        d = times e s

        d_not_zero : NotZero (times e s)
        d_not_zero = times_not_zero e s n m

        V : R → R
        V x = value f cs x

        go : Dec (To f d (V a) (V y)) → To f (times e s) (V a) (V y)
        go (yes h) = h
        go (no h) =
            let (x, a_x, x-y) = between f e a y u in
            let (z, x-z, z-y) = between f e x y x-y in
            let x-b : To f e x b = to_trans f e x y b x-y v in
            let z-b : To f e z b = to_trans f e z y b z-y v in
            let a_z : To f e a z = to_trans f e a x z a_x x-z in
            let not-below : To f (flip d) (V y) (V a) → ⊥ = λ t. h (subst (λ k. To f k (V a) (V y)) (flip-flip d) (to_turn f (flip d) (V y) (V a) t)) in
            let above : To f d (V z) (V a) = to_trans_weak f d d_not_zero (V z) (V y) (V a) (monotone_inner z y a_z z-y v) not-below in
            let below : To f (flip d) (V z) (V x) = to_turn f d (V x) (V z) (monotone_inner x z a_x x-z z-b) in
            let (w, a-w, w-x, level) = between_attained f e d n d_not_zero cs (V z) a x a_x above below in
            absurd (to_apart f d d_not_zero (V w) (V z) (monotone_inner w z a-w (to_trans f e w x z w-x x-z) z-b) level)

  pub monotone : (e s : Sign) → NotZero e → NotZero s → (cs : List R) (a b : R) → To f e a b →
      ((x : R) → To f e a x → To f e x b → sign (slope f cs x) ≡ s) → To f (times e s) (value f cs a) (value f cs b)
  monotone e s n m cs a b p slopes =
      let (y, a_y, y-b) = between f e a b p in
      let first : To f (times e s) (value f cs a) (value f cs y) = monotone_half e s n m cs a b p slopes y a_y y-b in
      let back : To f (times (flip e) s) (value f cs b) (value f cs y) =
      monotone_half (flip e) s (flip_not_zero e n) m cs b a (to_turn f e a b p)
      (λ x b-x x-a. slopes x (turned x a x-a) (turned b x b-x)) y (to_turn f e y b y-b) (to_turn f e a y a_y) in
      let second : To f (times e s) (value f cs y) (value f cs b) =
      subst (λ k. To f k (value f cs y) (value f cs b)) (ap flip (flip-times e s) ∙ flip-flip (times e s)) (to_turn f (times (flip e) s) (value f cs b) (value f cs y) back) in
      to_trans f (times e s) (value f cs a) (value f cs y) (value f cs b) first second
    where
      turned : (x y : R) → To f (flip e) x y → To f e y x
      turned x y t = subst (λ k. To f k y x) (flip-flip e) (to_turn f (flip e) x y t)
