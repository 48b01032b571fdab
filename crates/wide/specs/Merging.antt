-- One list of monomials added to another, a monomial at a time. Assumes nothing.
use Rattle.std.specs.Prelude.{◌≡◌, ℕ, ◌+◌, ◌^◌, ◌<◌, ◌≤◌, List, ◌++◌, length, drop}
use Rattle.terms.specs.Monomial.{Monomial}
use Rattle.terms.specs.Operations.{add_terms, scale_terms}
use Rattle.packed.specs.declared.term.Term.{Term}
use Rattle.packed.specs.declared.view.View.{View}
use Rattle.packed.specs.Terms.{terms_in}
use Rattle.terms.specs.Sizes.{KeysBelow, SizesAtMost}

-- a monomial times a stored polynomial
abbrev pub scaled_by : Term → View → List Monomial
scaled_by by polynomial = scale_terms by.key by.coefficient (terms_in polynomial)

-- the sum of two lists has room, and its coefficients fit
pub record Addable (left right : List Monomial) : Type 0 where
  pub most_left : ℕ
  pub most_right : ℕ
  pub keys_left : KeysBelow (2 ^ 63) left
  pub keys_right : KeysBelow (2 ^ 63) right
  pub sizes_left : SizesAtMost most_left left
  pub sizes_right : SizesAtMost most_right right
  pub fit : most_left + most_right < 2 ^ 63
  pub room : length left + length right ≤ 8192

-- from places i and j in the two lists, with so much written, to the next
pub record Merged (left right : List Monomial) (i j : ℕ) (out : List Monomial) (i' j' : ℕ) (out' : List Monomial) : Type 0 where
  pub same : out' ++ add_terms (drop i' left) (drop j' right) ≡ out ++ add_terms (drop i left) (drop j right)
  pub left_within : i' ≤ length left
  pub right_within : j' ≤ length right
  pub further : i + j < i' + j'
  pub short : length out' ≤ i' + j'

-- so much of the sum is written, and the rest is still to come
pub record Going (left right : List Monomial) (i j : ℕ) (out : List Monomial) : Type 0 where
  pub whole : out ++ add_terms (drop i left) (drop j right) ≡ add_terms left right
  pub left_within : i ≤ length left
  pub right_within : j ≤ length right
  pub short : length out ≤ i + j
