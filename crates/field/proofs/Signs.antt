-- The arithmetic of signs, by cases.
use mathlib.Core.Path.{◌≡◌, refl, sym, subst}
use mathlib.Core.Logic.{◌⊎◌, inl, inr}
use Rattle.field.specs.declared.sign.Sign.{Sign}
use Rattle.field.specs.declared.sign.Sign.TheVariants.{Neg, Zero, Pos}
use Rattle.field.specs.Sign.{flip, times}
use Rattle.field.specs.Order.{NotZero}

-- equality of signs as a type that computes: `same p` refutes p at two different signs
abbrev pub Same : Sign → Sign → Type 0
Same Neg Neg = Unit {0}
Same Neg Zero = ⊥
Same Neg Pos = ⊥
Same Zero Neg = ⊥
Same Zero Zero = Unit {0}
Same Zero Pos = ⊥
Same Pos Neg = ⊥
Same Pos Zero = ⊥
Same Pos Pos = Unit {0}

pub same_self : (s : Sign) → Same s s
same_self Neg = tt
same_self Zero = tt
same_self Pos = tt

pub same : {s t : Sign} → s ≡ t → Same s t
same {s} p = subst (Same s) p (same_self s)

pub decide-sign : (s t : Sign) → Dec (s ≡ t)
decide-sign Neg Neg = yes refl
decide-sign Neg Zero = no (λ p. same p)
decide-sign Neg Pos = no (λ p. same p)
decide-sign Zero Neg = no (λ p. same p)
decide-sign Zero Zero = yes refl
decide-sign Zero Pos = no (λ p. same p)
decide-sign Pos Neg = no (λ p. same p)
decide-sign Pos Zero = no (λ p. same p)
decide-sign Pos Pos = yes refl

pub not_zero : (s : Sign) → (s ≡ Zero → ⊥) → NotZero s
not_zero Neg n = tt
not_zero Zero n = n refl
not_zero Pos n = tt

pub not_zero_apart : (s : Sign) → NotZero s → s ≡ Zero → ⊥
not_zero_apart Neg n p = same p
not_zero_apart Zero n p = n
not_zero_apart Pos n p = same p

pub flip-flip : (s : Sign) → flip (flip s) ≡ s
flip-flip Neg = refl
flip-flip Zero = refl
flip-flip Pos = refl

pub flip_not_zero : (s : Sign) → NotZero s → NotZero (flip s)
flip_not_zero Neg n = tt
flip_not_zero Zero n = n
flip_not_zero Pos n = tt

pub flip_apart : (s : Sign) → NotZero s → flip s ≡ s → ⊥
flip_apart Neg n p = same p
flip_apart Zero n p = n
flip_apart Pos n p = same p

pub times_zero : (s : Sign) → times s Zero ≡ Zero
times_zero Neg = refl
times_zero Zero = refl
times_zero Pos = refl

pub times-pos : (s : Sign) → times s Pos ≡ s
times-pos Neg = refl
times-pos Zero = refl
times-pos Pos = refl

pub times_comm : (s t : Sign) → times s t ≡ times t s
times_comm Neg Neg = refl
times_comm Neg Zero = refl
times_comm Neg Pos = refl
times_comm Zero Neg = refl
times_comm Zero Zero = refl
times_comm Zero Pos = refl
times_comm Pos Neg = refl
times_comm Pos Zero = refl
times_comm Pos Pos = refl

pub times-flip : (s t : Sign) → times s (flip t) ≡ flip (times s t)
times-flip Neg t = refl
times-flip Zero t = refl
times-flip Pos t = refl

pub flip-times : (s t : Sign) → times (flip s) t ≡ flip (times s t)
flip-times Neg t = sym (flip-flip t)
flip-times Zero t = refl
flip-times Pos t = refl

pub times_assoc : (s t u : Sign) → times (times s t) u ≡ times s (times t u)
times_assoc Neg t u = flip-times t u
times_assoc Zero t u = refl
times_assoc Pos t u = refl

-- a direction is its own inverse
pub times-times : (s t : Sign) → NotZero s → times s (times s t) ≡ t
times-times Neg t n = flip-flip t
times-times Zero t n = absurd n
times-times Pos t n = refl

pub times_self : (s : Sign) → NotZero s → times s s ≡ Pos
times_self Neg n = refl
times_self Zero n = absurd n
times_self Pos n = refl

pub times_not_zero : (s t : Sign) → NotZero s → NotZero t → NotZero (times s t)
times_not_zero Neg t n m = flip_not_zero t m
times_not_zero Zero t n m = n
times_not_zero Pos t n m = m

-- a sign other than s is zero or opposite
pub zero_or_flip : (s t : Sign) → NotZero s → (t ≡ s → ⊥) → (t ≡ Zero) ⊎ (t ≡ flip s)
zero_or_flip Neg Neg n h = absurd (h refl)
zero_or_flip Neg Zero n h = inl refl
zero_or_flip Neg Pos n h = inr refl
zero_or_flip Zero t n h = absurd n
zero_or_flip Pos Neg n h = inr refl
zero_or_flip Pos Zero n h = inl refl
zero_or_flip Pos Pos n h = absurd (h refl)
