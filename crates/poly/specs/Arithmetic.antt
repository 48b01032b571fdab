-- Constants, variables, sums, products and negatives of polynomials in n variables, and the test whether two are equal. Assumes nothing.
use Rattle.std.specs.Prelude.{Bool, true, false, ◌&&◌, List, [], ◌∷◌, ℕ, zero, suc, ℤ, pos, neg_ℤ, ◌+ℤ◌, ◌*ℤ◌}
use Rattle.poly.specs.Poly.{Poly, Number, from_coefs, coefs, the_number, is_zero_number, zero_poly, trim}

unfoldable pub constant : ℕ → ℤ → Poly
constant zero z = Number z
constant (suc n) z = from_coefs (trim (constant n z ∷ []))

-- variable i of n; zero if there is none
unfoldable pub variable : ℕ → ℕ → Poly
variable zero i = Number (pos 0)
variable (suc n) zero = from_coefs (zero_poly n ∷ constant n (pos 1) ∷ [])
variable (suc n) (suc i) = from_coefs (trim (variable n i ∷ []))

-- coefficient by coefficient, where f adds two
unfoldable pub sum_by : (Poly → Poly → Poly) → List Poly → List Poly → List Poly
sum_by f [] bs = bs
sum_by f (a ∷ p) [] = a ∷ p
sum_by f (a ∷ p) (b ∷ q) = f a b ∷ sum_by f p q

unfoldable pub sum : ℕ → Poly → Poly → Poly
sum zero p q = Number (the_number p +ℤ the_number q)
sum (suc n) p q = from_coefs (trim (sum_by (sum n) (coefs p) (coefs q)))

unfoldable pub map_poly : (Poly → Poly) → List Poly → List Poly
map_poly f [] = []
map_poly f (c ∷ cs) = f c ∷ map_poly f cs

-- where f adds two coefficients, g multiplies two, and z is their zero
unfoldable pub product_by : (Poly → Poly → Poly) → (Poly → Poly → Poly) → Poly → List Poly → List Poly → List Poly
product_by f g z [] bs = []
product_by f g z (a ∷ p) bs = sum_by f (map_poly (g a) bs) (z ∷ product_by f g z p bs)

unfoldable pub product : ℕ → Poly → Poly → Poly
product zero p q = Number (the_number p *ℤ the_number q)
product (suc n) p q = from_coefs (trim (product_by (sum n) (product n) (zero_poly n) (coefs p) (coefs q)))

unfoldable pub negative : ℕ → Poly → Poly
negative zero p = Number (neg_ℤ (the_number p))
negative (suc n) p = from_coefs (map_poly (negative n) (coefs p))

abbrev pub difference : ℕ → Poly → Poly → Poly
difference n p q = sum n p (negative n q)

unfoldable pub same_by : (Poly → Poly → Bool) → List Poly → List Poly → Bool
same_by f [] [] = true
same_by f [] (b ∷ q) = false
same_by f (a ∷ p) [] = false
same_by f (a ∷ p) (b ∷ q) = f a b && same_by f p q

-- the same coefficients
unfoldable pub same : ℕ → Poly → Poly → Bool
same zero p q = is_zero_number (the_number p +ℤ neg_ℤ (the_number q))
same (suc n) p q = same_by (same n) (coefs p) (coefs q)
