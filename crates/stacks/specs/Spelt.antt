-- The polynomial that a list of monomials stands for. Assumes nothing.
use Rattle.std.specs.Prelude.{ℕ, zero, suc, ◌^◌, List, [], ◌∷◌, take, drop}
use Rattle.poly.specs.Poly.{Poly, Number, from_coefs}
use Rattle.terms.specs.Monomial.{Monomial}
use Rattle.terms.specs.Operations.{number_terms}
use Rattle.terms.specs.LeadingTerms.{count_below, lowered}

-- the coefficients in the first variable: those of keys below d, then the others with keys d less; at most k
unfoldable pub spelt_coefs : (List Monomial → Poly) → (d k : ℕ) → List Monomial → List Poly
spelt_coefs coef d zero ts = []
spelt_coefs coef d (suc k) [] = []
spelt_coefs coef d (suc k) (m ∷ ms) =
    coef (take (count_below d (m ∷ ms)) (m ∷ ms)) ∷ spelt_coefs coef d k (lowered d (drop (count_below d (m ∷ ms)) (m ∷ ms)))

-- in n variables
unfoldable pub spelt : ℕ → List Monomial → Poly
spelt zero ts = Number (number_terms ts)
spelt (suc n) ts = from_coefs (spelt_coefs (spelt n) (32 ^ n) 32 ts)
