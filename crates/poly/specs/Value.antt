-- The value of a polynomial, and what it is to have just n variables. Assumes nothing.
use Rattle.std.specs.Prelude.{List, [], ◌∷◌, ℕ, zero, suc}
use Rattle.field.specs.Field.{RealClosedField}
use Rattle.field.specs.Sentence.{integer}
use Rattle.poly.specs.Poly.{Poly, Number, End, Coef, coefs}

-- where the variables have these values, the first one's first
unfoldable pub value : {R : Type 0} → RealClosedField R → Poly → List R → R
value f (Number z) e = integer f z
value f End e = f.zero
value f (Coef c r) [] = value f c []
value f (Coef c r) (x ∷ e) = f.add (value f c e) (f.mul x (value f r (x ∷ e)))

-- just n variables, all the way down
unfoldable pub Depth : ℕ → Poly → Type 0
Depth zero (Number z) = Unit {0}
Depth zero End = ⊥
Depth zero (Coef c r) = ⊥
Depth (suc n) (Number z) = ⊥
Depth (suc n) End = Unit {0}
Depth (suc n) (Coef c r) = Depth n c × Depth (suc n) r

unfoldable pub values_at : {R : Type 0} → RealClosedField R → List R → List Poly → List R
values_at f e [] = []
values_at f e (c ∷ cs) = value f c e ∷ values_at f e cs

-- the values of the coefficients in the first variable, where the others have these values
abbrev pub coefficients_at : {R : Type 0} → RealClosedField R → List R → Poly → List R
coefficients_at f e p = values_at f e (coefs p)

-- x times itself, k times over
unfoldable pub power : {R : Type 0} → RealClosedField R → R → ℕ → R
power f x zero = f.one
power f x (suc k) = f.mul x (power f x k)
