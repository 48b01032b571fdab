-- Pseudo-division of lists of monomials in the first variable; n is the count of the other variables. Assumes nothing.
use Rattle.std.specs.Prelude.{ℕ, zero, suc, ◌+◌, ◌-◌, ◌*◌, ◌^◌, Bool, true, false, List, nat_lt}
use Rattle.field.specs.declared.sign.Sign.{Sign}
use Rattle.field.specs.declared.sign.Sign.TheVariants.{Neg, Zero, Pos}
use Rattle.poly.specs.Modest.{Checked, TooBig, Fine}
use Rattle.poly.specs.Division.{odd}
use Rattle.terms.specs.Monomial.{Monomial, raised, flat}
use Rattle.terms.specs.Operations.{neg_terms, add_product, mul_terms}
use Rattle.terms.specs.LeadingTerms.{length_terms, leading_terms}
use Rattle.terms.specs.ModestTerms.{modest_terms}

-- s by p: the leading coefficient of p times s, less the leading coefficient of s times p, moved up to the degree of s
abbrev pub step_terms : ℕ → List Monomial → List Monomial → List Monomial
step_terms n p s = add_product (neg_terms (raised ((length_terms n s - length_terms n p) * 32 ^ n) (leading_terms n s))) p (mul_terms (leading_terms n p) s)

-- whether all was modest, how many steps there were, and what is left
pub record DivisionTerms : Type 0 where
  pub good : Bool
  pub steps : ℕ
  pub rest : List Monomial

-- s by p after k steps, until what is left has fewer coefficients than p
unfoldable pub divide_terms : (fuel : ℕ) → ℕ → List Monomial → List Monomial → ℕ → DivisionTerms
divide_terms zero n p s k = record { good = true; steps = k; rest = s }
divide_terms (suc fuel) n p s k =
    elim (nat_lt (length_terms n s) (length_terms n p)) [
      | true ↦ record { good = true; steps = k; rest = s }
      | false ↦
          let r = step_terms n p s in
          elim (modest_terms (suc n) r) [ true ↦ divide_terms fuel n p r (k + 1) | false ↦ record { good = false; steps = k; rest = s } ]
    ]

-- r, its sign exchanged just where the count of steps is odd and the sign of the divisor's leading coefficient is Neg
abbrev pub exchanged_terms : Bool → Sign → List Monomial → List Monomial
exchanged_terms true Neg r = neg_terms r
exchanged_terms true Zero r = r
exchanged_terms true Pos r = r
exchanged_terms false h r = r

pub data CheckedTerms : Type 0 where
  TermsTooBig : CheckedTerms
  TermsFine : List Monomial → CheckedTerms

-- a checked polynomial in n variables by its monomials
abbrev pub flat_checked : ℕ → Checked → CheckedTerms
flat_checked n TooBig = TermsTooBig
flat_checked n (Fine p) = TermsFine (flat n p)

-- the remainder of s by p, whose leading coefficient has the sign h
abbrev pub remainder_terms : ℕ → Sign → List Monomial → List Monomial → CheckedTerms
remainder_terms n h p s =
    let d = divide_terms (length_terms n s + 1) n p s 0 in
    elim d.good [ true ↦ TermsFine (exchanged_terms (odd d.steps) h d.rest) | false ↦ TermsTooBig ]
