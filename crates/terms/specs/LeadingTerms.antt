-- A list of monomials by the exponents of its first variable; n is the count of the other variables. Assumes nothing.
use Rattle.std.specs.Prelude.{ℕ, suc, ◌+◌, ◌-◌, ◌*◌, ◌/◌, ◌^◌, true, false, List, [], ◌∷◌, take, drop, pos, ◌*ℤ◌, nat_lt}
use Rattle.terms.specs.Monomial.{Monomial, monomial}

-- the last key; 0 if there is none
unfoldable pub last_key : List Monomial → ℕ
last_key [] = 0
last_key (m ∷ []) = m.key
last_key (m ∷ k ∷ ms) = last_key (k ∷ ms)

-- in the first variable; zero has degree 0
abbrev pub degree_terms : ℕ → List Monomial → ℕ
degree_terms n ts = last_key ts / 32 ^ n

-- how many coefficients there are in the first variable
abbrev pub length_terms : ℕ → List Monomial → ℕ
length_terms n [] = 0
length_terms n (m ∷ ms) = degree_terms n (m ∷ ms) + 1

-- how many monomials stand before the first whose key is b or more
unfoldable pub count_below : ℕ → List Monomial → ℕ
count_below b [] = 0
count_below b (m ∷ ms) = elim (nat_lt m.key b) [ true ↦ suc (count_below b ms) | false ↦ 0 ]

-- every key d lower
unfoldable pub lowered : ℕ → List Monomial → List Monomial
lowered d [] = []
lowered d (m ∷ ms) = monomial (m.key - d) m.times ∷ lowered d ms

-- the key where the leading coefficient begins
abbrev pub leading_key : ℕ → List Monomial → ℕ
leading_key n ts = degree_terms n ts * 32 ^ n

-- the last monomials, those with the highest exponent of the first variable, without it
abbrev pub leading_terms : ℕ → List Monomial → List Monomial
leading_terms n ts = lowered (leading_key n ts) (drop (count_below (leading_key n ts) ts) ts)

-- what stands before them
abbrev pub prefix_terms : ℕ → List Monomial → List Monomial
prefix_terms n ts = take (count_below (leading_key n ts) ts) ts

-- each by its exponent of the first variable, which is then one less
unfoldable pub slopes : ℕ → List Monomial → List Monomial
slopes n [] = []
slopes n (m ∷ ms) = monomial (m.key - 32 ^ n) (pos (m.key / 32 ^ n) *ℤ m.times) ∷ slopes n ms

abbrev pub derivative_terms : ℕ → List Monomial → List Monomial
derivative_terms n ts = slopes n (drop (count_below (32 ^ n) ts) ts)
