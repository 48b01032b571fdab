-- A monomial as one whole number: its coefficient times 2^20, and its key. Assumes nothing.
use Rattle.std.specs.Prelude.{ℕ, ◌^◌, List, [], ◌∷◌, ℤ, pos, ◌+ℤ◌, ◌*ℤ◌, unsigned_abs}
use Rattle.std.specs.Int.{int_div_euclid, int_rem_euclid}
use Rattle.poly.specs.Poly.{Poly}
use Rattle.terms.specs.Monomial.{Monomial, monomial, flat}

abbrev pub cell_of : Monomial → ℤ
cell_of m = m.times *ℤ pos (2 ^ 20) +ℤ pos m.key

abbrev pub monomial_of : ℤ → Monomial
monomial_of z = monomial (unsigned_abs (int_rem_euclid z (pos (2 ^ 20)))) (int_div_euclid z (pos (2 ^ 20)))

unfoldable pub cells_of : List Monomial → List ℤ
cells_of [] = []
cells_of (m ∷ ms) = cell_of m ∷ cells_of ms

unfoldable pub monomials_of : List ℤ → List Monomial
monomials_of [] = []
monomials_of (z ∷ zs) = monomial_of z ∷ monomials_of zs

-- a polynomial in n variables
abbrev pub packed : ℕ → Poly → List ℤ
packed n p = cells_of (flat n p)
