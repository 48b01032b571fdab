-- On an interval where the slope has one sign: steady between ends of one sign, one root between ends of opposite signs.
use mathlib.Core.Path.{◌≡◌, refl, sym, ◌∙◌, ap}
use mathlib.Core.Logic.{◌⊎◌, inl, inr}
use mathlib.Core.List.{List}
use Rattle.field.specs.declared.sign.Sign.{Sign}
use Rattle.field.specs.declared.sign.Sign.TheVariants.{Zero}
use Rattle.field.specs.Field.{RealClosedField}
use Rattle.field.specs.Order.{NotZero, To}
use Rattle.field.specs.Sign.{flip, times}
use Rattle.field.proofs.Ring.{ring}
use Rattle.field.proofs.Signs.{decide-sign, not_zero_apart, flip-flip, flip_not_zero, flip_apart, flip-times, times_not_zero, zero_or_flip}
use Rattle.field.proofs.Order.{to_turn, to_apart, zero_sign, sign_add_same, sign_add_weak, sign-neg_of}
use Rattle.roots.specs.Value.{value, slope}
use Rattle.roots.specs.Interval.{End, Open, At, Inside, Ordered}
use Rattle.roots.specs.Analysis.{SlopeSign, ValueSign, sign_from, sign_to, Crosses}
use Rattle.roots.proofs.Inside.{AtOrAfter, AtOrBefore, to_turn-back, at_or_after, at_or_before, after_trans, before-trans, part-inside}
use Rattle.roots.proofs.Attained.{root-between}
use Rattle.roots.proofs.Monotone.{monotone}
use Rattle.roots.proofs.FarOut.{far_out}

module _ {R : Type 0} (f : RealClosedField R) (e s : Sign) (n : NotZero e) (m : NotZero s) (cs : List R) where
  open f use {zero as 𝟘, add as ◌+◌, neg as -◌, sign}

  infixl 60 ◌+◌
  infix 80 -◌
  rise_not_zero : NotZero (times e s)
  rise_not_zero = times_not_zero e s n m

  -- strictly monotone on the interval and its ends
  pub monotone-between : (l r : End R) → SlopeSign f e s cs l r → (x y : R) → AtOrAfter f e l x → AtOrBefore f e r y → To f e x y →
      To f (times e s) (value f cs x) (value f cs y)
  monotone-between l r slopes x y p q x-y = monotone f e s n m cs x y x-y (λ z x-z z-y. slopes z (part-inside f e l r x y z p q x-z z-y))

  -- from a value v of a sign not opposite to t, in the direction t
  kept : (t : Sign) → NotZero t → (v w : R) → (sign v ≡ flip t → ⊥) → To f t v w → sign w ≡ t
  kept t k v w h p =
      let split : (w + - v) + v ≡ w = simp ring in
      sym (ap sign split) ∙ sign_add_weak f t k (w + - v) v p h

  steady_away : (t : Sign) → NotZero t → t ≡ times e s → (l r : End R) → SlopeSign f e s cs l r →
      (sign_from f e s cs l ≡ flip t → ⊥) → ValueSign f e t cs l r
  steady_away t k p Open r slopes from x inside = absurd (from (ap flip (sym p)))
  steady_away t k p (At a) r slopes from x inside =
      kept t k (value f cs a) (value f cs x) from
      (monotone-between (At a) r slopes a x (inl refl) (at_or_before f e r x inside.1) inside.0 ∙ sym p)

  steady_towards : (t : Sign) → NotZero t → t ≡ flip (times e s) → (l r : End R) → SlopeSign f e s cs l r →
      (sign_to f e s cs r ≡ flip t → ⊥) → ValueSign f e t cs l r
  steady_towards t k p l Open slopes to x inside = absurd (to (sym (ap flip p ∙ flip-flip (times e s))))
  steady_towards t k p l (At b) slopes to x inside =
      kept t k (value f cs b) (value f cs x) to
      (to_turn f (times e s) (value f cs x) (value f cs b) (monotone-between l (At b) slopes x b (at_or_after f e l x inside.0) (inl refl) inside.1) ∙ sym p)

  pub steady : (t : Sign) → NotZero t → (l r : End R) → SlopeSign f e s cs l r →
      (sign_from f e s cs l ≡ flip t → ⊥) → (sign_to f e s cs r ≡ flip t → ⊥) → ValueSign f e t cs l r
  steady t k l r slopes from to = go (decide-sign t (times e s))
    where
      go : Dec (t ≡ times e s) → ValueSign f e t cs l r
      go (yes p) = steady_away t k p l r slopes from
      go (no p) = other (zero_or_flip (times e s) t rise_not_zero p)
        where
          other : (t ≡ Zero) ⊎ (t ≡ flip (times e s)) → ValueSign f e t cs l r
          other (inl z) = absurd (not_zero_apart t k z)
          other (inr q) = steady_towards t k q l r slopes to

  pub ends_apart : (l r : End R) → Ordered f e l r → SlopeSign f e s cs l r → sign_from f e s cs l ≡ Zero → sign_to f e s cs r ≡ Zero → ⊥
  ends_apart Open r o slopes p q = not_zero_apart (flip (times e s)) (flip_not_zero (times e s) rise_not_zero) p
  ends_apart (At a) Open o slopes p q = not_zero_apart (times e s) rise_not_zero q
  ends_apart (At a) (At b) o slopes p q =
      to_apart f (times e s) rise_not_zero (value f cs a) (value f cs b) (monotone-between (At a) (At b) slopes a b (inl refl) (inl refl) o)
      (f.sign_zero (value f cs a) p ∙ sym (f.sign_zero (value f cs b) q))

  -- opposite signs at the ends are those of the slope
  rising_ends : (t : Sign) → (l r : End R) → Ordered f e l r → SlopeSign f e s cs l r →
      sign_from f e s cs l ≡ t → sign_to f e s cs r ≡ flip t → times e s ≡ flip t
  rising_ends t Open r o slopes p q = sym (flip-flip (times e s)) ∙ ap flip p
  rising_ends t (At a) Open o slopes p q = q
  rising_ends t (At a) (At b) o slopes p q =
      sym (monotone-between (At a) (At b) slopes a b (inl refl) (inl refl) o)
      ∙ sign_add_same f (flip t) (value f cs b) (- value f cs a) q (sign-neg_of f t (value f cs a) p)

  -- two places in the interval, or at its ends, with the signs of the ends
  abbrev Apart : Sign → End R → End R → Type 0
  Apart t l r = (x : R) × (y : R) × AtOrAfter f e l x × AtOrBefore f e r y × To f e x y × (sign (value f cs x) ≡ t) × (sign (value f cs y) ≡ flip t)

  -- the sign far out, before the interval and after it
  far_before : (t b : R) → ((x : R) → To f e x b → sign (slope f cs x) ≡ s) → (x : R) × To f e x t × (sign (value f cs x) ≡ flip (times e s))
  far_before t b slopes =
      let (x, t-x, p) = far_out f (flip e) s (flip_not_zero e n) m cs b (λ y b-y. slopes y (to_turn-back f e b y b-y)) t in
      (x, to_turn-back f e t x t-x, p ∙ flip-times e s)

  apart : (t : Sign) → times e s ≡ flip t → (l r : End R) → Ordered f e l r → SlopeSign f e s cs l r →
      sign_from f e s cs l ≡ t → sign_to f e s cs r ≡ flip t → Apart t l r
  apart t rising Open Open o slopes p q =
      let (x, x-0, u) = far_before 𝟘 𝟘 (λ z h. slopes z (tt, tt)) in
      let (y, x-y, v) = far_out f e s n m cs 𝟘 (λ z h. slopes z (tt, tt)) x in
      (x, y, tt, tt, x-y, u ∙ p, v ∙ q)
  apart t rising Open (At b) o slopes p q =
      let (x, x-b, u) = far_before b b (λ z h. slopes z (tt, h)) in
      (x, b, tt, inl refl, x-b, u ∙ p, q)
  apart t rising (At a) Open o slopes p q =
      let (y, a_y, v) = far_out f e s n m cs a (λ z h. slopes z (h, tt)) a in
      (a, y, inl refl, tt, a_y, p, v ∙ q)
  apart t rising (At a) (At b) o slopes p q = (a, b, inl refl, inl refl, o, p, q)

  pub splits : (t : Sign) → NotZero t → (l r : End R) → Ordered f e l r → SlopeSign f e s cs l r →
      sign_from f e s cs l ≡ t → sign_to f e s cs r ≡ flip t → Crosses f e t cs l r
  splits t k l r o slopes p q =
      let rising : times e s ≡ flip t = rising_ends t l r o slopes p q in
      let (x, y, from-l, to-r, x-y, u, v) = apart t rising l r o slopes p q in
      let (c, x-c, c_y, root) = root-between f e t n k cs x y x-y u v in
      let c-inside : Inside f e l r c = part-inside f e l r x y c from-l to-r x-c c_y in
      (c, c-inside, root, before c c-inside root, after c c-inside root)
    where
      -- a root is of neither sign, so that both parts are steady
      neither : (c : R) → value f cs c ≡ 𝟘 → (u : Sign) → NotZero u → sign (value f cs c) ≡ u → ⊥
      neither c root u j h = not_zero_apart u j (sym h ∙ zero_sign f (value f cs c) root)

      before : (c : R) → Inside f e l r c → value f cs c ≡ 𝟘 → ValueSign f e t cs l (At c)
      before c c-inside root = steady t k l (At c) (λ x i. slopes x (i.0, before-trans f e r x c i.1 (at_or_before f e r c c-inside.1)))
          (λ h. flip_apart t k (sym h ∙ p)) (neither c root (flip t) (flip_not_zero t k))

      after : (c : R) → Inside f e l r c → value f cs c ≡ 𝟘 → ValueSign f e (flip t) cs (At c) r
      after c c-inside root = steady (flip t) (flip_not_zero t k) (At c) r (λ x i. slopes x (after_trans f e l c x (at_or_after f e l c c-inside.0) i.0, i.1))
          (neither c root (flip (flip t)) (flip_not_zero (flip t) (flip_not_zero t k))) (λ h. flip_apart (flip t) (flip_not_zero t k) (sym h ∙ q))
