-- What is promised of lists of monomials: they stand for polynomials with nothing lost, and what is done to the lists is what is done to the polynomials. Assumes nothing.
use Rattle.std.specs.Prelude.{◌≡◌, ℕ, suc, ◌+◌, ◌-◌, ◌*◌, ◌^◌, ◌<◌, ◌≤◌, T, List, length, ℤ}
use Rattle.field.specs.declared.sign.Sign.{Sign}
use Rattle.field.specs.Sentence.{Term}
use Rattle.poly.specs.Poly.{Poly, coefs, the_number, is_zero, zero_poly}
use Rattle.poly.specs.Arithmetic.{constant, variable, sum, product, negative, same}
use Rattle.poly.specs.Leading.{leading, without_leading, derivative, degree}
use Rattle.poly.specs.Modest.{magnitude, small, number_count, modest, Fine, term_poly}
use Rattle.poly.specs.Division.{division_step, divide, remainder}
use Rattle.poly.specs.Value.{Depth}
use Rattle.terms.specs.Monomial.{Monomial, constant_terms, flat, coefficient_at, Rising}
use Rattle.terms.specs.Operations.{add_terms, neg_terms, scale_terms, add_product, mul_terms, variable_terms, same_terms, is_zero_terms, number_terms}
use Rattle.terms.specs.LeadingTerms.{degree_terms, length_terms, leading_terms, prefix_terms, derivative_terms}
use Rattle.terms.specs.ModestTerms.{small_terms, count_terms, modest_terms}
use Rattle.terms.specs.DivisionTerms.{step_terms, divide_terms, flat_checked, remainder_terms}
use Rattle.terms.specs.Cells.{cell_of, monomial_of, cells_of, monomials_of, packed}
use Rattle.terms.specs.Canon.{Canon}
use Rattle.terms.specs.Sizes.{KeysBelow, SizesAtMost}

-- A polynomial has one list of monomials, and no other polynomial has it.
pub record FlatLaws : Type 0 where
  pub rising_unique : (lo hi : ℕ) (s t : List Monomial) → Rising lo hi s → Rising lo hi t → ((k : ℕ) → coefficient_at k s ≡ coefficient_at k t) → s ≡ t
  pub flat_rising : (b n : ℕ) (p : Poly) → b ≤ 32 → Canon b n p → Rising 0 (32 ^ n) (flat n p)
  pub flat_unique : (b n : ℕ) (p q : Poly) → b ≤ 32 → Canon b n p → Canon b n q → flat n p ≡ flat n q → p ≡ q
  pub flat_is_zero : (b n : ℕ) (p : Poly) → Canon b n p → is_zero p ≡ is_zero_terms (flat n p)
  pub flat_number : (p : Poly) → the_number p ≡ number_terms (flat 0 p)

-- What is made of polynomials whose lists are trimmed and not long.
pub record CanonLaws : Type 0 where
  pub Canon-wider : (a b n : ℕ) (p : Poly) → a ≤ b → Canon a n p → Canon b n p
  pub Canon-Depth : (b n : ℕ) (p : Poly) → Canon b n p → Depth n p
  pub Canon-zero_poly : (b n : ℕ) → Canon b n (zero_poly n)
  pub Canon-constant : (b n : ℕ) (z : ℤ) → 1 ≤ b → Canon b n (constant n z)
  pub Canon-variable : (b n i : ℕ) → 2 ≤ b → Canon b n (variable n i)
  pub Canon-sum : (b n : ℕ) (p q : Poly) → Canon b n p → Canon b n q → Canon b n (sum n p q)
  pub Canon-product : (a b n : ℕ) (p q : Poly) → Canon (suc a) n p → Canon (suc b) n q → Canon (suc a + b) n (product n p q)
  pub Canon-negative : (b n : ℕ) (p : Poly) → Canon b n p → Canon b n (negative n p)
  pub Canon-leading : (b n : ℕ) (p : Poly) → Canon b (suc n) p → Canon b n (leading n p)
  pub Canon-without_leading : (b n : ℕ) (p : Poly) → Canon b (suc n) p → Canon b (suc n) (without_leading p)
  pub Canon-derivative : (b n : ℕ) (p : Poly) → Canon (suc b) (suc n) p → Canon (suc b) (suc n) (derivative n p)
  pub Canon-division_step : (b n : ℕ) (p s : Poly) → Canon (suc b) (suc n) p → Canon (suc b) (suc n) s → Canon (suc b + b) (suc n) (division_step n p s)
  pub Canon-modest : (b n : ℕ) (p : Poly) → Canon b n p → T (modest n p) → Canon 9 n p
  pub Canon-term : (n : ℕ) (t : Term) (p : Poly) → term_poly n t ≡ Fine p → Canon 9 n p
  pub Canon-remainder : (n : ℕ) (h : Sign) (p s r : Poly) → Canon 9 (suc n) p → Canon 9 (suc n) s → remainder n h p s ≡ Fine r → Canon 9 (suc n) r

-- Sums, negatives, products and equality of polynomials by their monomials.
pub record FlatOperationLaws : Type 0 where
  pub flat_constant : (n : ℕ) (z : ℤ) → flat n (constant n z) ≡ constant_terms z
  pub flat_variable : (n i : ℕ) → flat n (variable n i) ≡ variable_terms n i
  pub flat_sum : (b n : ℕ) (p q : Poly) → b ≤ 32 → Canon b n p → Canon b n q → flat n (sum n p q) ≡ add_terms (flat n p) (flat n q)
  pub flat_negative : (n : ℕ) (p : Poly) → flat n (negative n p) ≡ neg_terms (flat n p)
  pub flat_product : (a b n : ℕ) (p q : Poly) → suc a + b ≤ 32 → Canon (suc a) n p → Canon (suc b) n q → flat n (product n p q) ≡ mul_terms (flat n p) (flat n q)
  pub flat_same : (b n : ℕ) (p q : Poly) → b ≤ 32 → Canon b n p → Canon b n q → same n p q ≡ same_terms (flat n p) (flat n q)
  pub flat_same_negative : (b n : ℕ) (p q : Poly) → b ≤ 32 → Canon b n p → Canon b n q → same n (negative n p) q ≡ same_terms (neg_terms (flat n p)) (flat n q)

-- A polynomial in its first variable by its monomials.
pub record FlatLeadingLaws : Type 0 where
  pub flat_length : (b n : ℕ) (p : Poly) → b ≤ 32 → Canon b (suc n) p → length (coefs p) ≡ length_terms n (flat (suc n) p)
  pub flat_degree : (b n : ℕ) (p : Poly) → b ≤ 32 → Canon b (suc n) p → degree p ≡ degree_terms n (flat (suc n) p)
  pub flat_leading : (b n : ℕ) (p : Poly) → b ≤ 32 → Canon b (suc n) p → flat n (leading n p) ≡ leading_terms n (flat (suc n) p)
  pub flat_without_leading : (b n : ℕ) (p : Poly) → b ≤ 32 → Canon b (suc n) p → flat (suc n) (without_leading p) ≡ prefix_terms n (flat (suc n) p)
  pub flat_derivative : (b n : ℕ) (p : Poly) → suc b ≤ 32 → Canon (suc b) (suc n) p → flat (suc n) (derivative n p) ≡ derivative_terms n (flat (suc n) p)

-- Modest polynomials by their monomials: there are at most 64, with coefficients below 2^27.
pub record FlatModestLaws : Type 0 where
  pub flat_small : (b n : ℕ) (p : Poly) → b ≤ 32 → Canon b n p → small n p ≡ small_terms n (flat n p)
  pub flat_count : (b n : ℕ) (p : Poly) → b ≤ 32 → Canon b n p → number_count n p ≡ count_terms n (flat n p)
  pub flat_modest : (b n : ℕ) (p : Poly) → b ≤ 32 → Canon b n p → modest n p ≡ modest_terms n (flat n p)
  pub modest_length : (n : ℕ) (p : Poly) → T (modest n p) → length (flat n p) ≤ 64
  pub modest_sizes : (n : ℕ) (ts : List Monomial) → T (modest_terms n ts) → SizesAtMost (2 ^ 27 - 1) ts

-- Division by monomials: each step, the count of steps, and the remainder.
pub record FlatDivisionLaws : Type 0 where
  pub flat_division_step : (b n : ℕ) (p s : Poly) → suc b + b ≤ 32 → Canon (suc b) (suc n) p → Canon (suc b) (suc n) s →
      flat (suc n) (division_step n p s) ≡ step_terms n (flat (suc n) p) (flat (suc n) s)
  pub flat_divide : (fuel n : ℕ) (p s : Poly) (k : ℕ) → Canon 9 (suc n) p → Canon 9 (suc n) s →
      ((divide fuel n p s k).good ≡ (divide_terms fuel n (flat (suc n) p) (flat (suc n) s) k).good) ×
      ((divide fuel n p s k).steps ≡ (divide_terms fuel n (flat (suc n) p) (flat (suc n) s) k).steps) ×
      (flat (suc n) (divide fuel n p s k).rest ≡ (divide_terms fuel n (flat (suc n) p) (flat (suc n) s) k).rest)
  pub flat_remainder : (n : ℕ) (h : Sign) (p s : Poly) → Canon 9 (suc n) p → Canon 9 (suc n) s →
      flat_checked (suc n) (remainder n h p s) ≡ remainder_terms n h (flat (suc n) p) (flat (suc n) s)

-- How long the lists get, how high their keys, how large their coefficients.
pub record SizeLaws : Type 0 where
  pub length_sum : (s t : List Monomial) → length (add_terms s t) ≤ length s + length t
  pub length_scaled : (d : ℕ) (x : ℤ) (s : List Monomial) → length (scale_terms d x s) ≡ length s
  pub length_product : (p q acc : List Monomial) → length (add_product p q acc) ≤ length p * length q + length acc
  pub keys_sum : (hi : ℕ) (s t : List Monomial) → KeysBelow hi s → KeysBelow hi t → KeysBelow hi (add_terms s t)
  pub keys_scaled : (hi d : ℕ) (x : ℤ) (s : List Monomial) → KeysBelow hi s → KeysBelow (d + hi) (scale_terms d x s)
  pub keys_product : (a b : ℕ) (p q acc : List Monomial) → KeysBelow a p → KeysBelow b q → KeysBelow (a + b) acc → KeysBelow (a + b) (add_product p q acc)
  pub keys_rising : (lo hi : ℕ) (s : List Monomial) → Rising lo hi s → KeysBelow hi s
  pub keys_flat : (b n : ℕ) (p : Poly) → n ≤ 4 → b ≤ 32 → Canon b n p → KeysBelow (2 ^ 20) (flat n p)
  pub rising_of_product : (a b n : ℕ) (p q : Poly) → suc a + b ≤ 32 → Canon (suc a) n p → Canon (suc b) n q → Rising 0 (32 ^ n) (mul_terms (flat n p) (flat n q))
  pub rising_of_step : (b n : ℕ) (p s : Poly) → suc b + b ≤ 32 → Canon (suc b) (suc n) p → Canon (suc b) (suc n) s → Rising 0 (32 ^ suc n) (step_terms n (flat (suc n) p) (flat (suc n) s))
  pub sizes_sum : (a b : ℕ) (s t : List Monomial) → SizesAtMost a s → SizesAtMost b t → SizesAtMost (a + b) (add_terms s t)
  pub sizes_scaled : (b d : ℕ) (x : ℤ) (s : List Monomial) → SizesAtMost b s → SizesAtMost (magnitude x * b) (scale_terms d x s)
  pub sizes_product : (a b c : ℕ) (p q acc : List Monomial) → SizesAtMost a p → SizesAtMost b q → SizesAtMost c acc → SizesAtMost (length p * (a * b) + c) (add_product p q acc)
  -- of at most 64 monomials with coefficients below 2^27, added to what is at most c
  pub sizes_modest_product : (c : ℕ) (p q acc : List Monomial) → length p ≤ 64 → SizesAtMost (2 ^ 27 - 1) p → SizesAtMost (2 ^ 27 - 1) q → SizesAtMost c acc →
      SizesAtMost (2 ^ 60 - 1 + c) (add_product p q acc)
  pub sizes_step : (n : ℕ) (p s : List Monomial) → length p ≤ 64 → length s ≤ 64 → SizesAtMost (2 ^ 27 - 1) p → SizesAtMost (2 ^ 27 - 1) s →
      SizesAtMost (2 ^ 61 - 2) (step_terms n p s)

-- A monomial whose key is below 2^20 is one whole number, and each whole number is such a monomial.
pub record CellLaws : Type 0 where
  pub monomial_of_cell : (m : Monomial) → m.key < 2 ^ 20 → monomial_of (cell_of m) ≡ m
  pub cell_of_monomial : (z : ℤ) → cell_of (monomial_of z) ≡ z
  pub key_of_cell : (z : ℤ) → (monomial_of z).key < 2 ^ 20
  pub monomials_of_cells : (ms : List Monomial) → KeysBelow (2 ^ 20) ms → monomials_of (cells_of ms) ≡ ms
  pub cells_of_monomials : (zs : List ℤ) → cells_of (monomials_of zs) ≡ zs
  pub size_of_cell : (m : Monomial) → m.key < 2 ^ 20 → magnitude m.times < 2 ^ 27 → magnitude (cell_of m) < 2 ^ 47
  pub packed_monomials : (b n : ℕ) (p : Poly) → n ≤ 4 → b ≤ 32 → Canon b n p → monomials_of (packed n p) ≡ flat n p
  pub packed_unique : (b n : ℕ) (p q : Poly) → n ≤ 4 → b ≤ 32 → Canon b n p → Canon b n q → packed n p ≡ packed n q → p ≡ q
