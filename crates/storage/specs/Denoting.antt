-- Which polynomial a list of monomials stands for, and what is promised of lists that are computed and checked. Assumes nothing.
use Rattle.std.specs.Prelude.{◌≡◌, ℕ, suc, ◌≤◌, true, List, length, ℤ}
use Rattle.poly.specs.Poly.{Poly, coefs, is_zero}
use Rattle.poly.specs.Arithmetic.{constant, variable, sum, product, negative, same}
use Rattle.poly.specs.Leading.{leading, without_leading, derivative, degree}
use Rattle.poly.specs.Modest.{modest}
use Rattle.poly.specs.Division.{division_step}
use Rattle.terms.specs.Monomial.{Monomial, constant_terms, flat}
use Rattle.terms.specs.Operations.{add_terms, neg_terms, mul_terms, variable_terms, same_terms, is_zero_terms}
use Rattle.terms.specs.LeadingTerms.{degree_terms, length_terms, leading_terms, prefix_terms, derivative_terms}
use Rattle.terms.specs.DivisionTerms.{step_terms}
use Rattle.terms.specs.ModestTerms.{modest_terms}
use Rattle.terms.specs.Canon.{Canon}

-- a polynomial in n variables, its lists trimmed and with at most nine coefficients each
pub record Denotes (n : ℕ) (ts : List Monomial) (p : Poly) : Type 0 where
  pub canon : Canon 9 n p
  pub monomials : ts ≡ flat n p

-- the list is stored just where the polynomial is modest, and then stands for it
pub record Checks (n : ℕ) (ts : List Monomial) (p : Poly) : Type 0 where
  pub test : modest_terms 4 ts ≡ modest n p
  pub kept : modest_terms 4 ts ≡ true → Denotes n ts p

-- n is at most 4
pub record DenotingLaws : Type 0 where
  pub one : (n : ℕ) (ts : List Monomial) (p q : Poly) → Denotes n ts p → Denotes n ts q → p ≡ q
  pub sum_checks : (n : ℕ) (ts us : List Monomial) (p q : Poly) → n ≤ 4 → Denotes n ts p → Denotes n us q → Checks n (add_terms ts us) (sum n p q)
  pub product_checks : (n : ℕ) (ts us : List Monomial) (p q : Poly) → n ≤ 4 → Denotes n ts p → Denotes n us q → Checks n (mul_terms ts us) (product n p q)
  pub negative_checks : (n : ℕ) (ts : List Monomial) (p : Poly) → n ≤ 4 → Denotes n ts p → Checks n (neg_terms ts) (negative n p)
  pub number_checks : (n : ℕ) (z : ℤ) → n ≤ 4 → Checks n (constant_terms z) (constant n z)
  pub variable_checks : (n i : ℕ) → n ≤ 4 → Checks n (variable_terms n i) (variable n i)
  pub derivative_checks : (n : ℕ) (ts : List Monomial) (p : Poly) → suc n ≤ 4 → Denotes (suc n) ts p → Checks (suc n) (derivative_terms n ts) (derivative n p)
  pub step_checks : (n : ℕ) (ts us : List Monomial) (p s : Poly) → suc n ≤ 4 → Denotes (suc n) ts p → Denotes (suc n) us s → Checks (suc n) (step_terms n ts us) (division_step n p s)
  pub leading_denotes : (n : ℕ) (ts : List Monomial) (p : Poly) → Denotes (suc n) ts p → Denotes n (leading_terms n ts) (leading n p)
  pub without_leading_denotes : (n : ℕ) (ts : List Monomial) (p : Poly) → Denotes (suc n) ts p → Denotes (suc n) (prefix_terms n ts) (without_leading p)
  pub negative_denotes : (n : ℕ) (ts : List Monomial) (p : Poly) → Denotes n ts p → Denotes n (neg_terms ts) (negative n p)
  pub degree_is : (n : ℕ) (ts : List Monomial) (p : Poly) → Denotes (suc n) ts p → degree_terms n ts ≡ degree p
  pub length_is : (n : ℕ) (ts : List Monomial) (p : Poly) → Denotes (suc n) ts p → length_terms n ts ≡ length (coefs p)
  pub zero_is : (n : ℕ) (ts : List Monomial) (p : Poly) → Denotes n ts p → is_zero_terms ts ≡ is_zero p
  pub same_is : (n : ℕ) (ts us : List Monomial) (p q : Poly) → Denotes n ts p → Denotes n us q → same_terms ts us ≡ same n p q
  pub same_negative_is : (n : ℕ) (ts us : List Monomial) (p q : Poly) → Denotes n ts p → Denotes n us q → same_terms (neg_terms ts) us ≡ same n (negative n p) q
