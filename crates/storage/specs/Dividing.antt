-- A division of stored polynomials in an arena, a step at a time. Assumes nothing.
use Rattle.std.specs.Prelude.{◌≡◌, ℕ, suc, ◌+◌, ◌%◌, ◌<◌, ◌≤◌, Bool, true, false, List, length, take, ℤ, Ok, Err, Result, ◌==◌}
use Rattle.field.specs.declared.sign.Sign.{Sign}
use Rattle.field.specs.declared.sign.Sign.TheVariants.{Neg, Zero, Pos}
use Rattle.poly.specs.Poly.{Poly, coefs}
use Rattle.poly.specs.Modest.{TooBig, Fine}
use Rattle.poly.specs.Division.{divide, remainder}
use Rattle.terms.specs.Monomial.{Monomial}
use Rattle.terms.specs.ModestTerms.{modest_terms}
use Rattle.storage.specs.declared.span.Span.{Span}
use Rattle.storage.specs.declared.remainder.Quotient.{Quotient}
use Rattle.storage.specs.Spans.{Holds, terms_at}
use Rattle.storage.specs.Denoting.{Denotes}

-- what stood below the mark still stands, and at most 64 numbers stand above it
pub record Untouched (mark : ℕ) (cells : List ℤ) (top' : ℕ) (cells' : List ℤ) : Type 0 where
  pub same : take mark cells' ≡ take mark cells
  pub long : length cells' ≡ length cells
  pub above : mark ≤ top'
  pub most : top' ≤ mark + 64

-- after so many steps, with so many more allowed: what is left, where it lies, and that dividing it on gives what the whole division gives
pub record Dividing (n : ℕ) (ps ss : List Monomial) (mark : ℕ) (cells : List ℤ) (allowed fuel steps : ℕ) (rest : Span) (top' : ℕ) (cells' : List ℤ) : Type 0 where
  pub means : (p s : Poly) → Denotes (suc n) ps p → Denotes (suc n) ss s → (q : Poly) × Denotes (suc n) (terms_at rest cells') q × (divide fuel n p q steps ≡ divide allowed n p s 0)
  pub holds : Holds rest top' cells'
  pub untouched : Untouched mark cells top' cells'
  pub modest : 0 < steps → modest_terms 4 (terms_at rest cells') ≡ true
  pub counted : steps + fuel ≡ allowed

-- the whole division, or that some step wasn't modest
pub record Divided (n : ℕ) (ps ss : List Monomial) (mark : ℕ) (cells : List ℤ) (steps : ℕ) (rest : Span) (top' : ℕ) (cells' : List ℤ) : Type 0 where
  pub means : (p s : Poly) → Denotes (suc n) ps p → Denotes (suc n) ss s →
      (q : Poly) × Denotes (suc n) (terms_at rest cells') q × (divide (length (coefs s) + 1) n p s 0 ≡ record { good = true; steps = steps; rest = q })
  pub holds : Holds rest top' cells'
  pub untouched : Untouched mark cells top' cells'
  pub modest : 0 < steps → modest_terms 4 (terms_at rest cells') ≡ true

pub record Refused (n : ℕ) (ps ss : List Monomial) (mark : ℕ) (cells : List ℤ) (top' : ℕ) (cells' : List ℤ) : Type 0 where
  pub means : (p s : Poly) → Denotes (suc n) ps p → Denotes (suc n) ss s → (divide (length (coefs s) + 1) n p s 0).good ≡ false
  pub untouched : Untouched mark cells top' cells'
  pub back : top' ≡ mark

abbrev pub divided : {E : Type 0} → Result Quotient E → ℕ → List Monomial → List Monomial → ℕ → List ℤ → ℕ → List ℤ → Type 0
divided (Ok d) n ps ss mark cells top' cells' = Divided n ps ss mark cells d.steps d.rest top' cells'
divided (Err _) n ps ss mark cells top' cells' = Refused n ps ss mark cells top' cells'

-- the remainder stored at a span, or refused since a step wasn't modest
pub record Remainder (n : ℕ) (h : Sign) (ps ss : List Monomial) (mark : ℕ) (cells : List ℤ) (rest : Span) (top' : ℕ) (cells' : List ℤ) : Type 0 where
  pub means : (p s : Poly) → Denotes (suc n) ps p → Denotes (suc n) ss s → (r : Poly) × Denotes (suc n) (terms_at rest cells') r × (remainder n h p s ≡ Fine r)
  pub holds : Holds rest top' cells'
  pub untouched : Untouched mark cells top' cells'

pub record NoRemainder (n : ℕ) (h : Sign) (ps ss : List Monomial) (mark : ℕ) (cells : List ℤ) (top' : ℕ) (cells' : List ℤ) : Type 0 where
  pub means : (p s : Poly) → Denotes (suc n) ps p → Denotes (suc n) ss s → remainder n h p s ≡ TooBig
  pub untouched : Untouched mark cells top' cells'
  pub back : top' ≡ mark

abbrev pub remains : {E : Type 0} → Result Span E → ℕ → Sign → List Monomial → List Monomial → ℕ → List ℤ → ℕ → List ℤ → Type 0
remains (Ok rest) n h ps ss mark cells top' cells' = Remainder n h ps ss mark cells rest top' cells'
remains (Err _) n h ps ss mark cells top' cells' = NoRemainder n h ps ss mark cells top' cells'

-- whether the remainder's sign is exchanged
abbrev pub exchanges_sign : ℕ → Sign → Bool
exchanges_sign steps Neg = steps % 2 == 1
exchanges_sign steps Zero = false
exchanges_sign steps Pos = false
