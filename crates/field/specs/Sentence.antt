-- Sentences of the first order about a real closed field, and what it is for one to hold. Assumes nothing.
use Rattle.std.specs.Prelude.{◌≡◌, Bool, true, false, List, [], ◌∷◌, ◌⊎◌, ℕ, zero, suc, ℤ, pos, negsuc}
use Rattle.field.specs.declared.sign.Sign.TheVariants.{Neg, Zero}
use Rattle.field.specs.Field.{RealClosedField}

-- variables are counted from the innermost quantifier, 0
pub data Term : Type 0 where
  Var : ℕ → Term
  Num : ℤ → Term
  Sum : Term → Term → Term
  Product : Term → Term → Term

-- a term is below zero; a term is zero
pub data Formula : Type 0 where
  BelowZero : Term → Formula
  EqualsZero : Term → Formula
  Not : Formula → Formula
  And : Formula → Formula → Formula
  Or : Formula → Formula → Formula

-- quantifiers, the innermost first: true is every, false is some; then a formula without any
pub record Sentence : Type 0 where
  pub quantifiers : List Bool
  pub body : Formula

-- whole numbers in a field
unfoldable pub natural : {R : Type 0} → RealClosedField R → ℕ → R
natural f zero = f.zero
natural f (suc n) = f.add f.one (natural f n)

abbrev pub integer : {R : Type 0} → RealClosedField R → ℤ → R
integer f (pos n) = natural f n
integer f (negsuc n) = f.neg (natural f (suc n))

-- variable n, where the variables have these values
unfoldable pub lookup : {R : Type 0} → RealClosedField R → List R → ℕ → R
lookup f [] n = f.zero
lookup f (x ∷ xs) zero = x
lookup f (x ∷ xs) (suc n) = lookup f xs n

unfoldable pub term_value : {R : Type 0} → RealClosedField R → List R → Term → R
term_value f e (Var n) = lookup f e n
term_value f e (Num z) = integer f z
term_value f e (Sum s t) = f.add (term_value f e s) (term_value f e t)
term_value f e (Product s t) = f.mul (term_value f e s) (term_value f e t)

-- a formula holds where the variables have these values
unfoldable pub Satisfies : {R : Type 0} → RealClosedField R → List R → Formula → Type 0
Satisfies f e (BelowZero t) = f.sign (term_value f e t) ≡ Neg
Satisfies f e (EqualsZero t) = f.sign (term_value f e t) ≡ Zero
Satisfies f e (Not p) = Satisfies f e p → ⊥
Satisfies f e (And p q) = Satisfies f e p × Satisfies f e q
Satisfies f e (Or p q) = Satisfies f e p ⊎ Satisfies f e q

-- the quantifiers, the outermost first, over the values chosen so far
unfoldable pub Quantified : {R : Type 0} → RealClosedField R → List R → List Bool → Formula → Type 0
Quantified f e [] p = Satisfies f e p
Quantified {R} f e (true ∷ qs) p = (x : R) → Quantified f (x ∷ e) qs p
Quantified {R} f e (false ∷ qs) p = (x : R) × Quantified f (x ∷ e) qs p

-- xs turned round, in front of ys
unfoldable pub reverse_onto : List Bool → List Bool → List Bool
reverse_onto [] ys = ys
reverse_onto (x ∷ xs) ys = reverse_onto xs (x ∷ ys)

abbrev pub Holds : {R : Type 0} → RealClosedField R → Sentence → Type 0
Holds f s = Quantified f [] (reverse_onto s.quantifiers []) s.body
