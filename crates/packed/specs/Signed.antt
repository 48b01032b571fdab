-- Monomials and their negatives. Assumes nothing.
use Rattle.std.specs.Prelude.{Bool, true, false, ◌&&◌, List, ℤ, ◌+ℤ◌, neg_ℤ, ◌==◌}
use Rattle.poly.specs.Poly.{is_zero_number}
use Rattle.terms.specs.Monomial.{Monomial}
use Rattle.terms.specs.Operations.{neg_terms}

-- the same, or the negative
abbrev pub signed_number : Bool → ℤ → ℤ
signed_number true x = neg_ℤ x
signed_number false x = x

abbrev pub signed : Bool → List Monomial → List Monomial
signed true ts = neg_terms ts
signed false ts = ts

abbrev pub same_monomial : Monomial → Monomial → Bool
same_monomial a b = a.key == b.key && is_zero_number (a.times +ℤ neg_ℤ b.times)
