-- Monomials from a list of keys and a list of coefficients. Assumes nothing.
use Rattle.std.specs.Prelude.{List, [], ◌∷◌, ℤ, unsigned_abs}
use Rattle.terms.specs.Monomial.{Monomial, monomial}

unfoldable pub paired : List ℤ → List ℤ → List Monomial
paired [] cs = []
paired (k ∷ ks) [] = []
paired (k ∷ ks) (c ∷ cs) = monomial (unsigned_abs k) c ∷ paired ks cs
