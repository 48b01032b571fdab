-- The monomials of a list in lent memory. Assumes nothing.
use Rattle.std.specs.Prelude.{List, take}
use Rattle.terms.specs.Monomial.{Monomial}
use Rattle.wide.specs.declared.wide.Wide.{Wide}
use Rattle.wide.specs.Pairs.{paired}

abbrev pub written : Wide → List Monomial
written w = take w.len (paired w.keys.now w.coefficients.now)
