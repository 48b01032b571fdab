-- What facts tell of a sign. Assumes nothing.
use Rattle.std.specs.Prelude.{ℕ, Bool, true, false, List, take, ℤ, Some, None, Option}
use Rattle.field.specs.declared.sign.Sign.{Sign}
use Rattle.field.specs.Sign.{flip}
use Rattle.terms.specs.Monomial.{Monomial}
use Rattle.terms.specs.Cells.{monomials_of}
use Rattle.terms.specs.LeadingTerms.{leading_terms}
use Rattle.sign_table.specs.Facts.{Known, Unknown, Is}
use Rattle.stacks.specs.Slots.{slot_in}

abbrev pub known_of : Option Sign → Known
known_of None = Unknown
known_of (Some s) = Is s

-- of a fact with this sign: whether it is about the same polynomial, and whether about its negative
abbrev pub told_by : (same opposite : Bool) → Sign → Known
told_by true b s = Is s
told_by false true s = Is (flip s)
told_by false false s = Unknown

-- the first monomials in a slot
abbrev pub front_terms : List ℤ → (slot count : ℕ) → List Monomial
front_terms slots i count = monomials_of (take count (slot_in slots i))

-- the monomials of their leading coefficient
abbrev pub leading_front : ℕ → List ℤ → (slot count : ℕ) → List Monomial
leading_front n slots i count = leading_terms n (front_terms slots i count)
