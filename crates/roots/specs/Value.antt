-- The value and the slope of a polynomial, given by its coefficients, the lowest first; and its synthetic quotient. Assumes nothing.
use Rattle.std.specs.Prelude.{List, [], ◌∷◌}
use Rattle.field.specs.Field.{RealClosedField, horner}

abbrev pub value : {R : Type 0} → RealClosedField R → List R → R → R
value f cs x = horner f.zero f.add f.mul cs x

-- the value of the derivative: c + x p has the slope p + x p'
unfoldable pub slope : {R : Type 0} → RealClosedField R → List R → R → R
slope f [] x = f.zero
slope f (c ∷ cs) x = f.add (value f cs x) (f.mul x (slope f cs x))

-- the quotient of p - p(a) by x - a, by synthetic division
unfoldable pub quotient : {R : Type 0} → RealClosedField R → R → List R → List R
quotient f a [] = []
quotient f a (c ∷ []) = []
quotient f a (c ∷ (d ∷ ds)) = value f (d ∷ ds) a ∷ quotient f a (d ∷ ds)

-- the last coefficient
unfoldable pub leading : {R : Type 0} → RealClosedField R → List R → R
leading f [] = f.zero
leading f (c ∷ []) = c
leading f (c ∷ (d ∷ ds)) = leading f (d ∷ ds)
