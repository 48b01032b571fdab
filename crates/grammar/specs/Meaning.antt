-- What the signs of texts mean, and the words of terms, formulas and sentences. Assumes nothing.
use Rattle.std.specs.Prelude.{ℕ, zero, suc, Bool, true, false, List, [], ◌∷◌, ◌++◌, map, length, ℤ, pos, negsuc}
use Rattle.field.specs.Sentence.{Term, Var, Num, Sum, Product, Formula, BelowZero, EqualsZero, Not, And, Or, Sentence}
use Rattle.grammar.specs.declared.relation.Relation.{Relation}
use Rattle.grammar.specs.declared.relation.Relation.TheVariants.{Below, AtMost, Equal, Unequal, Above, AtLeast}

abbrev pub negative : Term → Term
negative t = Product (Num (negsuc 0)) t

abbrev pub difference : Term → Term → Term
difference s t = Sum s (negative t)

-- t^1 is t, t^3 is (t*t)*t
unfoldable pub power : Term → ℕ → Term
power t zero = t
power t (suc zero) = t
power t (suc (suc n)) = Product (power t (suc n)) t

abbrev pub compared : Relation → Term → Term → Formula
compared Below s t = BelowZero (difference s t)
compared AtMost s t = Not (BelowZero (difference t s))
compared Equal s t = EqualsZero (difference s t)
compared Unequal s t = Not (EqualsZero (difference s t))
compared Above s t = BelowZero (difference t s)
compared AtLeast s t = Not (BelowZero (difference s t))

abbrev pub implies : Formula → Formula → Formula
implies p q = Or (Not p) q

abbrev pub equivalent : Formula → Formula → Formula
equivalent p q = And (implies p q) (implies q p)

unfoldable pub term_words : Term → List ℤ
term_words (Var i) = pos 6 ∷ pos i ∷ []
term_words (Num z) = pos 7 ∷ z ∷ []
term_words (Sum s t) = pos 8 ∷ (term_words s ++ term_words t)
term_words (Product s t) = pos 9 ∷ (term_words s ++ term_words t)

unfoldable pub formula_words : Formula → List ℤ
formula_words (BelowZero t) = pos 1 ∷ term_words t
formula_words (EqualsZero t) = pos 2 ∷ term_words t
formula_words (Not p) = pos 3 ∷ formula_words p
formula_words (And p q) = pos 4 ∷ (formula_words p ++ formula_words q)
formula_words (Or p q) = pos 5 ∷ (formula_words p ++ formula_words q)

-- 0 is some, 1 is every
abbrev pub quantifier_word : Bool → ℤ
quantifier_word true = pos 1
quantifier_word false = pos 0

abbrev pub sentence_words : Sentence → List ℤ
sentence_words s = pos (length s.quantifiers) ∷ (map quantifier_word s.quantifiers ++ formula_words s.body)
