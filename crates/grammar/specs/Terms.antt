-- Readers of terms, a level of binding each, over the readers that stand one level deeper. Assumes nothing.
use Rattle.std.specs.Prelude.{ℕ, ◌-◌, Bool, true, false, cond, not, ◌&&◌, ◌||◌, List, pos, codes, ◌==◌, nat_eq, nat_le}
use Rattle.field.specs.Sentence.{Term, Var, Num, Sum, Product, Formula}
use Rattle.grammar.specs.declared.fault.Fault.TheVariants.{Unfit}
use Rattle.grammar.specs.declared.word.Word.{Word}
use Rattle.grammar.specs.Characters.{is_letter, is_digit}
use Rattle.grammar.specs.Meaning.{negative, difference, power}
use Rattle.grammar.specs.Reader.{Reader, Give, Look, Pass, Refuse, ◌>>=◌, ◌>>◌, while}
use Rattle.grammar.specs.Tokens.{longest, blanks, sign, letters, number, variable}

-- a sum as far as it is read, and whether an arrow has been read behind it, which ends it
pub record Summed : Type 0 where
  pub term : Term
  pub arrow : Bool

-- a formula as far as it is read, and whether an arrow has been read behind it
pub record Claim : Type 0 where
  pub formula : Formula
  pub arrow : Bool

-- what a parenthesis at the start of a formula may hold
pub data Piece : Type 0 where
  OfTerm : Term → Piece
  OfClaim : Claim → Piece

-- the readers that parentheses, `not` and a minus in front lead to
pub record Nest : Type 0 where
  pub product : Reader Term
  pub sum : Reader Term
  pub atom : Reader Piece
  pub formula : Reader Piece

-- a word that must be a name
unfoldable pub named : List Word → Word → Reader Term
named names w = variable names w >>= (λ i. Give (Var i))

-- a sum in parentheses
unfoldable pub grouped : Nest → Reader Term
grouped deeper = sign (codes "(") >> (deeper.sum >>= (λ t. sign (codes ")") >> Give t))

-- a name, a number, or a sum in parentheses
unfoldable pub primary_of : List Word → Nest → ℕ → Reader Term
primary_of names deeper c =
    cond (is_letter c) (letters >>= named names)
    (cond (is_digit c) (number >>= (λ n. Give (Num (pos n))))
    (grouped deeper))

-- a digit from 1 to 8
abbrev pub is_exponent : ℕ → Bool
is_exponent c = nat_le 49 c && nat_le c 56

-- `^` with such a digit, at most once
unfoldable pub raised : Term → Reader Term
raised t =
    Look (λ c. cond (c == 94)
    (sign (codes "^") >> Look (λ d. cond (is_exponent d) (Pass (blanks >> Give (power t (d - 48)))) (Refuse Unfit)))
    (Give t))

unfoldable pub factor : List Word → Nest → Reader Term
factor names deeper = Look (λ c. primary_of names deeper c >>= raised)

-- a factor more
unfoldable pub times_next : List Word → Nest → Term → Reader Term
times_next names deeper s = sign (codes "*") >> (factor names deeper >>= (λ t. Give (Product s t)))

-- the factors behind a first one, at most n
unfoldable pub times_for : ℕ → List Word → Nest → Term → Reader Term
times_for n names deeper = while n (λ _ c. nat_eq c 42) (times_next names deeper)

abbrev pub times : List Word → Nest → Term → Reader Term
times = times_for longest

unfoldable pub product : List Word → Nest → Reader Term
product names deeper = factor names deeper >>= times names deeper

-- what is taken away, behind a minus
unfoldable pub taken : List Word → Nest → Term → Reader Summed
taken names deeper s = blanks >> (product names deeper >>= (λ t. Give (record { term = difference s t; arrow = false })))

-- behind a minus: the `>` of an arrow, where one may stand, or what is taken away
unfoldable pub taken_of : List Word → Nest → Bool → Term → ℕ → Reader Summed
taken_of names deeper may_arrow s c = cond (may_arrow && c == 62) (sign (codes ">") >> Give (record { term = s; arrow = true })) (taken names deeper s)

-- what is added
unfoldable pub added : List Word → Nest → Term → Reader Summed
added names deeper s = sign (codes "+") >> (product names deeper >>= (λ t. Give (record { term = Sum s t; arrow = false })))

-- a summand more, by its sign
unfoldable pub summand_of : List Word → Nest → Bool → Term → ℕ → Reader Summed
summand_of names deeper may_arrow s c = cond (c == 43) (added names deeper s) (Pass (Look (taken_of names deeper may_arrow s)))

unfoldable pub plus_next : List Word → Nest → Bool → Summed → Reader Summed
plus_next names deeper may_arrow s = Look (summand_of names deeper may_arrow s.term)

-- a plus or a minus
abbrev pub is_summand_sign : ℕ → Bool
is_summand_sign c = c == 43 || c == 45

abbrev pub begins_summand : Summed → ℕ → Bool
begins_summand s c = not s.arrow && is_summand_sign c

-- the summands behind a first one, at most n
unfoldable pub plus_for : ℕ → List Word → Nest → Bool → Summed → Reader Summed
plus_for n names deeper may_arrow = while n begins_summand (plus_next names deeper may_arrow)

unfoldable pub plus : List Word → Nest → Bool → Term → Reader Summed
plus names deeper may_arrow t = plus_for longest names deeper may_arrow (record { term = t; arrow = false })

-- a minus in front of a product
unfoldable pub negated : Nest → Reader Term
negated deeper = sign (codes "-") >> (deeper.product >>= (λ t. Give (negative t)))

-- a first product, perhaps with a minus in front
unfoldable pub leading_of : List Word → Nest → ℕ → Reader Term
leading_of names deeper c =
    cond (c == 45) (negated deeper) (product names deeper)

unfoldable pub sum : List Word → Nest → Bool → Reader Summed
sum names deeper may_arrow = Look (leading_of names deeper) >>= plus names deeper may_arrow
