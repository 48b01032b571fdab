-- What is proved of polynomials in one variable over a real closed field: factors, first roots, slopes, signs between and far out.
-- Everything is said in a direction e, Pos or Neg, so that left and right are one statement. Assumes nothing.
use Rattle.std.specs.Prelude.{◌≡◌, ◌⊎◌, List, ℕ, suc, ◌≤◌, length}
use Rattle.field.specs.declared.sign.Sign.{Sign}
use Rattle.field.specs.declared.sign.Sign.TheVariants.{Zero}
use Rattle.field.specs.Field.{RealClosedField}
use Rattle.field.specs.Order.{NotZero, To}
use Rattle.field.specs.Sign.{flip, times}
use Rattle.roots.specs.Value.{value, slope, quotient, leading}
use Rattle.roots.specs.Interval.{UpTo, End, Open, At, Inside, Ordered}

-- the slope has the sign s on the whole interval
abbrev pub SlopeSign : {R : Type 0} → RealClosedField R → Sign → Sign → List R → End R → End R → Type 0
SlopeSign {R} f e s cs l r = (x : R) → Inside f e l r x → f.sign (slope f cs x) ≡ s

-- the value has the sign t on the whole interval
abbrev pub ValueSign : {R : Type 0} → RealClosedField R → Sign → Sign → List R → End R → End R → Type 0
ValueSign {R} f e t cs l r = (x : R) → Inside f e l r x → f.sign (value f cs x) ≡ t

-- the sign at the end where the interval starts, and at the one where it ends; at an open end the sign far out, given the slope's sign s
abbrev pub sign_from : {R : Type 0} → RealClosedField R → Sign → Sign → List R → End R → Sign
sign_from f e s cs Open = flip (times e s)
sign_from f e s cs (At a) = f.sign (value f cs a)

abbrev pub sign_to : {R : Type 0} → RealClosedField R → Sign → Sign → List R → End R → Sign
sign_to f e s cs Open = times e s
sign_to f e s cs (At b) = f.sign (value f cs b)

-- one root in the interval, the sign t before it and the opposite sign after it
abbrev pub Crosses : {R : Type 0} → RealClosedField R → Sign → Sign → List R → End R → End R → Type 0
Crosses {R} f e t cs l r = (c : R) × Inside f e l r c × (value f cs c ≡ f.zero) × ValueSign f e t cs l (At c) × ValueSign f e (flip t) cs (At c) r

-- p(x) = p(a) + (x - a) q(x) and p'(x) = q(x) + (x - a) q'(x), with q shorter than p
abbrev pub Divides : {R : Type 0} → RealClosedField R → Type 0
Divides {R} f =
    ((a : R) (cs : List R) (x : R) → value f cs x ≡ f.add (value f cs a) (f.mul (f.add x (f.neg a)) (value f (quotient f a cs) x)))
    × ((a : R) (cs : List R) (x : R) →
    slope f cs x ≡ f.add (value f (quotient f a cs) x) (f.mul (f.add x (f.neg a)) (slope f (quotient f a cs) x)))
    × ((n : ℕ) (a : R) (cs : List R) → length cs ≤ suc n → length (quotient f a cs) ≤ n)

-- a root after a and up to b at which e times the slope's sign is not s
abbrev pub RootAfter : {R : Type 0} → RealClosedField R → Sign → Sign → List R → R → R → Type 0
RootAfter {R} f e s cs a b = (c : R) × To f e a c × UpTo f e b c × (value f cs c ≡ f.zero) × (times e (f.sign (slope f cs c)) ≡ s → ⊥)

-- p has the sign s at a and not at b: there is such a root
abbrev pub FirstRoot : {R : Type 0} → RealClosedField R → Type 0
FirstRoot {R} f = (e s : Sign) → NotZero e → NotZero s → (cs : List R) (a b : R) → To f e a b →
    f.sign (value f cs a) ≡ s → (f.sign (value f cs b) ≡ s → ⊥) → RootAfter f e s cs a b

-- a slope of one sign between a and b: strictly monotone, the ends included
abbrev pub Monotone : {R : Type 0} → RealClosedField R → Type 0
Monotone {R} f = (e s : Sign) → NotZero e → NotZero s → (cs : List R) (a b : R) → To f e a b →
    SlopeSign f e s cs (At a) (At b) → To f (times e s) (value f cs a) (value f cs b)

-- a slope of one sign on an interval, a ray or the whole line: strictly monotone inside
abbrev pub MonotoneInside : {R : Type 0} → RealClosedField R → Type 0
MonotoneInside {R} f = (e s : Sign) → NotZero e → NotZero s → (cs : List R) (l r : End R) → SlopeSign f e s cs l r →
    (x y : R) → Inside f e l r x → Inside f e l r y → To f e x y → To f (times e s) (value f cs x) (value f cs y)

-- a slope of one sign, and no end of the sign opposite to t: the sign t all through
abbrev pub Steady : {R : Type 0} → RealClosedField R → Type 0
Steady {R} f = (e s t : Sign) → NotZero e → NotZero s → NotZero t → (cs : List R) (l r : End R) → SlopeSign f e s cs l r →
    (sign_from f e s cs l ≡ flip t → ⊥) → (sign_to f e s cs r ≡ flip t → ⊥) → ValueSign f e t cs l r

-- a slope of one sign, and opposite signs at the ends: one root
abbrev pub Splits : {R : Type 0} → RealClosedField R → Type 0
Splits {R} f = (e s t : Sign) → NotZero e → NotZero s → NotZero t → (cs : List R) (l r : End R) → Ordered f e l r → SlopeSign f e s cs l r →
    sign_from f e s cs l ≡ t → sign_to f e s cs r ≡ flip t → Crosses f e t cs l r

-- a slope of one sign: not zero at both ends
abbrev pub EndsApart : {R : Type 0} → RealClosedField R → Type 0
EndsApart {R} f = (e s : Sign) → NotZero e → NotZero s → (cs : List R) (l r : End R) → Ordered f e l r → SlopeSign f e s cs l r →
    sign_from f e s cs l ≡ Zero → sign_to f e s cs r ≡ Zero → ⊥

-- the same value everywhere
abbrev pub Constant : {R : Type 0} → RealClosedField R → List R → Type 0
Constant {R} f cs = (x y : R) → value f cs x ≡ value f cs y

-- beyond every a, in the direction e, there is a value beyond every l, in the direction t
abbrev pub Passes : {R : Type 0} → RealClosedField R → Sign → Sign → List R → Type 0
Passes {R} f e t cs = (a l : R) → (x : R) × To f e a x × To f t l (value f cs x)

abbrev pub ConstantOrPasses : {R : Type 0} → RealClosedField R → Type 0
ConstantOrPasses {R} f = (e : Sign) → NotZero e → (cs : List R) → Constant f cs ⊎ ((t : Sign) × NotZero t × Passes f e t cs)

-- a slope of one sign beyond a: beyond every b there is a place where the value has the sign far out
abbrev pub FarOut : {R : Type 0} → RealClosedField R → Type 0
FarOut {R} f = (e s : Sign) → NotZero e → NotZero s → (cs : List R) (a : R) → SlopeSign f e s cs (At a) Open →
    (b : R) → (x : R) × To f e b x × (f.sign (value f cs x) ≡ times e s)

-- a sign that is constant beside c is the sign at c, unless that is zero
abbrev pub NoJump : {R : Type 0} → RealClosedField R → Type 0
NoJump {R} f = (e t : Sign) → NotZero e → (cs : List R) (c : R) (r : End R) → Ordered f e (At c) r → ValueSign f e t cs (At c) r →
    (f.sign (value f cs c) ≡ Zero → ⊥) → f.sign (value f cs c) ≡ t

-- zero on an interval is zero everywhere
abbrev pub ZeroEverywhere : {R : Type 0} → RealClosedField R → Type 0
ZeroEverywhere {R} f = (e : Sign) → NotZero e → (cs : List R) (l r : End R) → Ordered f e l r → ValueSign f e Zero cs l r →
    (x : R) → value f cs x ≡ f.zero

-- a polynomial whose leading coefficient is not zero is not zero at some place of every interval
abbrev pub NotZeroSomewhere : {R : Type 0} → RealClosedField R → Type 0
NotZeroSomewhere {R} f = (e : Sign) → NotZero e → (cs : List R) (l r : End R) → Ordered f e l r → (f.sign (leading f cs) ≡ Zero → ⊥) →
    (x : R) × Inside f e l r x × (f.sign (value f cs x) ≡ Zero → ⊥)

-- an interval seen in the other direction is the same
abbrev pub Turns : {R : Type 0} → RealClosedField R → Type 0
Turns {R} f = (e : Sign) (l r : End R) → (Ordered f e l r → Ordered f (flip e) r l) × ((x : R) → Inside f e l r x → Inside f (flip e) r l x)

-- every interval whose ends are ordered has a number in it
abbrev pub Inhabited : {R : Type 0} → RealClosedField R → Type 0
Inhabited {R} f = (e : Sign) (l r : End R) → Ordered f e l r → (x : R) × Inside f e l r x

pub record Analysis {R : Type 0} (f : RealClosedField R) : Type 0 where
  pub divides : Divides f
  pub first_root : FirstRoot f
  pub monotone : Monotone f
  pub monotone_inside : MonotoneInside f
  pub steady : Steady f
  pub splits : Splits f
  pub ends_apart : EndsApart f
  pub constant_or_passes : ConstantOrPasses f
  pub far_out : FarOut f
  pub no_jump : NoJump f
  pub zero_everywhere : ZeroEverywhere f
  pub not_zero_somewhere : NotZeroSomewhere f
  pub turns : Turns f
  pub inhabited : Inhabited f
