-- How a sentence without quantifiers is answered: its formula becomes a tree of questions about numbers, and the tree is followed. Assumes nothing.
use Rattle.std.specs.Prelude.{ℕ, ◌+◌, ◌^◌, Bool, cond, List, [], ◌∷◌, ℤ, pos, negsuc, ◌+ℤ◌, ◌*ℤ◌, Some, None, Option, Ok, Err, Result, ◌==◌, nat_lt, unsigned_abs}
use Rattle.field.specs.Sentence.{Term, Var, Num, Sum, Product, Formula, BelowZero, EqualsZero, Not, And, Or, Sentence}
use Rattle.words.specs.Words.{sentence_of}
use Rattle.words.specs.declared.answer.Answer.{Answer}
use Rattle.ground.specs.declared.verdict.Refusal.{Refusal}

-- a number that is not too large to go on with: below 2^27 without its sign
abbrev pub modest : ℤ → Option ℤ
modest z = cond (nat_lt (unsigned_abs z) (2 ^ 27)) (Some z) None

abbrev pub on_both : (ℤ → ℤ → Option ℤ) → Option ℤ → Option ℤ → Option ℤ
on_both op None b = None
on_both op (Some x) None = None
on_both op (Some x) (Some y) = op x y

-- a term's number, if it and all its parts' are modest
unfoldable pub number_of : Term → Option ℤ
number_of (Var i) = modest (pos 0)
number_of (Num z) = modest z
number_of (Sum s t) = on_both (λ x y. modest (x +ℤ y)) (number_of s) (number_of t)
number_of (Product s t) = on_both (λ x y. modest (x *ℤ y)) (number_of s) (number_of t)

-- an answer that depends on signs: Ask z a b c is a, b or c as z is below, at or above zero
pub data Tree : Type 0 where
  Yes : Tree
  No : Tree
  Lost : Tree
  Ask : ℤ → Tree → Tree → Tree → Tree

abbrev pub asks : Option ℤ → Tree → Tree → Tree → Tree
asks None a b c = Lost
asks (Some z) a b c = Ask z a b c

-- a formula's tree, given what yes and what no leads to; and puts the second formula's tree where the first says yes, or where it says no
unfoldable pub tree_of : Formula → Tree → Tree → Tree
tree_of (BelowZero t) y n = asks (number_of t) y n n
tree_of (EqualsZero t) y n = asks (number_of t) n y n
tree_of (Not p) y n = tree_of p n y
tree_of (And p q) y n = tree_of p (tree_of q y n) n
tree_of (Or p q) y n = tree_of p y (tree_of q y n)

unfoldable pub questions : Tree → ℕ
questions Yes = 0
questions No = 0
questions Lost = 0
questions (Ask z a b c) = 1 + (questions a + (questions b + questions c))

abbrev pub by_sign : {A : Type 0} → ℤ → A → A → A → A
by_sign (pos n) a b c = cond (n == 0) b c
by_sign (negsuc n) a b c = a

unfoldable pub followed : Tree → Answer
followed Yes = Answer.Yes
followed No = Answer.No
followed Lost = Answer.GivenUp
followed (Ask z a b c) = by_sign z (followed a) (followed b) (followed c)

-- with 3,500 questions or more it is given up
abbrev pub answered : Tree → Answer
answered t = cond (nat_lt (questions t) 3500) (followed t) Answer.GivenUp

abbrev pub verdict_by : List Bool → Formula → Result Answer Refusal
verdict_by [] p = Ok (answered (tree_of p Yes No))
verdict_by (q ∷ qs) p = Err Refusal.NotDecided

abbrev pub verdict_if : Option Sentence → Result Answer Refusal
verdict_if None = Err Refusal.NotASentence
verdict_if (Some s) = verdict_by s.quantifiers s.body

-- what is said of a slice of words
abbrev pub verdict_of : List ℤ → Result Answer Refusal
verdict_of zs = verdict_if (sentence_of zs)
