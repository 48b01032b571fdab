-- What words read as: terms, formulas and sentences. Assumes nothing.
use Rattle.std.specs.Prelude.{ℕ, zero, suc, Bool, true, false, cond, List, [], ◌∷◌, length, ℤ, pos, negsuc, Some, None, Option, ◌==◌, nat_le, nat_lt, unsigned_abs}
use Rattle.field.specs.Sentence.{Term, Var, Num, Sum, Product, Formula, BelowZero, EqualsZero, Not, And, Or, Sentence}
use Rattle.words.specs.declared.kind.Kind.{Kind}
use Rattle.words.specs.Kind.{kind_of}
use Rattle.words.specs.Reading.{Reading, Refused, Read, then, mapped, two, meant}

-- a variable of v, counted from 0
abbrev pub variable_of : ℕ → ℤ → Option ℕ
variable_of v (pos i) = cond (nat_lt i v) (Some i) None
variable_of v (negsuc i) = None

-- a number from -65,535 to 65,535
abbrev pub number_of : ℤ → Option ℤ
number_of z = cond (nat_lt (unsigned_abs z) 65536) (Some z) None

-- 0 is some, 1 is every
abbrev pub quantifier_of : ℤ → Option Bool
quantifier_of (pos n) = cond (n == 0) (Some false) (cond (n == 1) (Some true) None)
quantifier_of (negsuc n) = None

-- at most four quantifiers
abbrev pub count_of : ℤ → Option ℕ
count_of (pos n) = cond (nat_le n 4) (Some n) None
count_of (negsuc n) = None

-- the rest of a term of this kind; go: a term one level deeper
abbrev pub term_by : ℕ → (List ℤ → Reading Term) → Kind → List ℤ → Reading Term
term_by v go Kind.BelowZero zs = Refused
term_by v go Kind.EqualsZero zs = Refused
term_by v go Kind.Not zs = Refused
term_by v go Kind.And zs = Refused
term_by v go Kind.Or zs = Refused
term_by v go Kind.Variable zs = mapped Var (meant (variable_of v) zs)
term_by v go Kind.Number zs = mapped Num (meant number_of zs)
term_by v go Kind.Sum zs = two Sum go zs
term_by v go Kind.Product zs = two Product go zs

-- a term about v variables, nested at most so deep
unfoldable pub term_at : ℕ → ℕ → List ℤ → Reading Term
term_at zero v zs = Refused
term_at (suc depth) v zs = then (meant kind_of zs) (term_by v (term_at depth v))

-- the rest of a formula of this kind; term and go: a term and a formula one level deeper
abbrev pub formula_by : (List ℤ → Reading Term) → (List ℤ → Reading Formula) → Kind → List ℤ → Reading Formula
formula_by term go Kind.BelowZero zs = mapped BelowZero (term zs)
formula_by term go Kind.EqualsZero zs = mapped EqualsZero (term zs)
formula_by term go Kind.Not zs = mapped Not (go zs)
formula_by term go Kind.And zs = two And go zs
formula_by term go Kind.Or zs = two Or go zs
formula_by term go Kind.Variable zs = Refused
formula_by term go Kind.Number zs = Refused
formula_by term go Kind.Sum zs = Refused
formula_by term go Kind.Product zs = Refused

unfoldable pub formula_at : ℕ → ℕ → List ℤ → Reading Formula
formula_at zero v zs = Refused
formula_at (suc depth) v zs = then (meant kind_of zs) (formula_by (term_at depth v) (formula_at depth v))

-- n quantifiers, the innermost first
unfoldable pub quantifiers_at : ℕ → List ℤ → Reading (List Bool)
quantifiers_at zero zs = Read [] zs
quantifiers_at (suc n) zs = then (meant quantifier_of zs) (λ q rest. mapped (λ qs. q ∷ qs) (quantifiers_at n rest))

-- how many quantifiers, these, and a formula about as many variables
abbrev pub sentence_at : List ℤ → Reading Sentence
sentence_at zs =
    then (meant count_of zs) (λ n rest. then (quantifiers_at n rest) (λ qs body. mapped (λ p. record { quantifiers = qs; body = p }) (formula_at 1024 n body)))

-- read to the last word
abbrev pub whole : Reading Sentence → Option Sentence
whole Refused = None
whole (Read s []) = Some s
whole (Read s (z ∷ zs)) = None

-- at most 1,024 words
abbrev pub sentence_of : List ℤ → Option Sentence
sentence_of zs = cond (nat_le (length zs) 1024) (whole (sentence_at zs)) None

abbrev pub is_there : Option Sentence → Bool
is_there None = false
is_there (Some s) = true

abbrev pub is_sentence : List ℤ → Bool
is_sentence zs = is_there (sentence_of zs)
