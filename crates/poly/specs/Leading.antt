-- A polynomial in its first variable: its leading coefficient, what is left without it, its derivative and its degree. Assumes nothing.
use Rattle.std.specs.Prelude.{List, [], ◌∷◌, ℕ, zero, suc, ◌+◌, ◌-◌, length, pos}
use Rattle.poly.specs.Poly.{Poly, from_coefs, coefs, zero_poly, trim}
use Rattle.poly.specs.Arithmetic.{constant, product}

-- the last of the list; c if there is none
unfoldable pub last_or : {A : Type 0} → A → List A → A
last_or c [] = c
last_or c (d ∷ cs) = last_or d cs

-- n: the variables of the coefficients
abbrev pub leading : ℕ → Poly → Poly
leading n p = last_or (zero_poly n) (coefs p)

unfoldable pub without_last : List Poly → List Poly
without_last [] = []
without_last (c ∷ []) = []
without_last (c ∷ d ∷ cs) = c ∷ without_last (d ∷ cs)

abbrev pub without_leading : Poly → Poly
without_leading p = from_coefs (trim (without_last (coefs p)))

-- the first by k, the next by k + 1, and so on
unfoldable pub scaled : ℕ → ℕ → List Poly → List Poly
scaled n k [] = []
scaled n k (c ∷ cs) = product n (constant n (pos k)) c ∷ scaled n (k + 1) cs

abbrev pub without_first : List Poly → List Poly
without_first [] = []
without_first (c ∷ cs) = cs

-- in the first variable; n: the variables of the coefficients
abbrev pub derivative : ℕ → Poly → Poly
derivative n p = from_coefs (trim (scaled n 1 (without_first (coefs p))))

-- in the first variable; zero has degree 0
abbrev pub degree : Poly → ℕ
degree p = length (coefs p) - 1

-- k zeros in front: multiplied k times by the first variable
unfoldable pub shifted : ℕ → ℕ → List Poly → List Poly
shifted n zero cs = cs
shifted n (suc k) cs = zero_poly n ∷ shifted n k cs
