-- The monomials of a stretch. Assumes nothing.
use Rattle.std.specs.Prelude.{List, drop}
use Rattle.packed.specs.declared.stretch.Stretch.{Stretch}
use Rattle.packed.specs.Signed.{signed}
use Rattle.packed.specs.Terms.{terms_in}
use Rattle.terms.specs.Monomial.{Monomial}
use Rattle.terms.specs.LeadingTerms.{lowered}

abbrev pub stretch_terms : Stretch → List Monomial
stretch_terms s = signed s.negative (lowered s.down (drop s.from (terms_in s.view)))
