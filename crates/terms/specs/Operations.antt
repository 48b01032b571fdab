-- Sums, negatives, products, variables and equality of lists of monomials with rising keys. Assumes nothing.
use Rattle.std.specs.Prelude.{ℕ, suc, ◌+◌, ◌-◌, ◌^◌, Bool, true, false, ◌&&◌, List, [], ◌∷◌, ℤ, pos, ◌+ℤ◌, ◌*ℤ◌, neg_ℤ, ◌==◌, nat_lt}
use Rattle.poly.specs.Poly.{is_zero_number}
use Rattle.terms.specs.Monomial.{Monomial, monomial}

-- a monomial put in front, unless its coefficient is zero
unfoldable pub put_term : Monomial → List Monomial → List Monomial
put_term m ms = elim (is_zero_number m.times) [ true ↦ ms | false ↦ m ∷ ms ]

-- a merged into the second list, where f merges what follows a into the rest of it
unfoldable pub merge_term : Monomial → (List Monomial → List Monomial) → List Monomial → List Monomial
merge_term a f [] = a ∷ f []
merge_term a f (b ∷ bs) =
    elim (nat_lt a.key b.key) [
      | true ↦ a ∷ f (b ∷ bs)
      | false ↦ elim (nat_lt b.key a.key) [ true ↦ b ∷ merge_term a f bs | false ↦ put_term (monomial a.key (a.times +ℤ b.times)) (f bs) ]
    ]

-- the sum: both merged by their keys, coefficients of one key added, zeros left out
unfoldable pub add_terms : List Monomial → List Monomial → List Monomial
add_terms [] bs = bs
add_terms (a ∷ p) bs = merge_term a (add_terms p) bs

unfoldable pub neg_terms : List Monomial → List Monomial
neg_terms [] = []
neg_terms (m ∷ ms) = monomial m.key (neg_ℤ m.times) ∷ neg_terms ms

-- every key d higher, every coefficient times x
unfoldable pub scale_terms : ℕ → ℤ → List Monomial → List Monomial
scale_terms d x [] = []
scale_terms d x (m ∷ ms) = monomial (d + m.key) (x *ℤ m.times) ∷ scale_terms d x ms

-- the product of the first two and the third added up, a merge for each monomial of the first
unfoldable pub add_product : List Monomial → List Monomial → List Monomial → List Monomial
add_product [] q acc = acc
add_product (m ∷ ms) q acc = add_terms (scale_terms m.key m.times q) (add_product ms q acc)

abbrev pub mul_terms : List Monomial → List Monomial → List Monomial
mul_terms p q = add_product p q []

-- variable i of n; zero if there is none
unfoldable pub variable_terms : ℕ → ℕ → List Monomial
variable_terms n i = elim (nat_lt i n) [ true ↦ monomial (32 ^ (n - suc i)) (pos 1) ∷ [] | false ↦ [] ]

unfoldable pub same_terms : List Monomial → List Monomial → Bool
same_terms [] [] = true
same_terms [] (b ∷ q) = false
same_terms (a ∷ p) [] = false
same_terms (a ∷ p) (b ∷ q) = a.key == b.key && is_zero_number (a.times +ℤ neg_ℤ b.times) && same_terms p q

abbrev pub is_zero_terms : List Monomial → Bool
is_zero_terms [] = true
is_zero_terms (m ∷ ms) = false

-- the number that a list with no variables is
abbrev pub number_terms : List Monomial → ℤ
number_terms [] = pos 0
number_terms (m ∷ ms) = m.times
