-- The derivative of a list, a monomial at a time, and lists of one monomial. Assumes nothing.
use Rattle.std.proofs.Common.{◌≡◌, ℕ, suc, ◌-◌, ◌^◌, ◌<◌, ◌≤◌, true, false, List, [], ◌∷◌, ◌++◌, ℤ, pos, sym, refl, ap, ◌∙◌, le-ltb, lt-ltb}
use Rattle.poly.specs.Poly.{is_zero_number}
use Rattle.terms.specs.Monomial.{Monomial, monomial, constant_terms}
use Rattle.terms.specs.Operations.{variable_terms}
use Rattle.terms.specs.LeadingTerms.{slopes}
use Rattle.packed.proofs.Walked.{moved}
use Rattle.wide.specs.Slopes.{slope_by}

slopes_cons : (n : ℕ) (m : Monomial) (ms : List Monomial) → slopes n (m ∷ ms) ≡ slope_by (32 ^ n) m ∷ slopes n ms
unfolding slopes
slopes_cons n m ms = refl

pub slopes_none : (n : ℕ) → slopes n [] ≡ []
unfolding slopes
slopes_none n = refl

-- one more of the derivative
pub slopes-next : (n : ℕ) (left left' out out' : List Monomial) (m s : Monomial) → left ≡ m ∷ left' → s ≡ slope_by (32 ^ n) m → out' ≡ out ++ s ∷ [] →
    out' ++ slopes n left' ≡ out ++ slopes n left
slopes-next n left left' out out' m s e q f =
    moved out out' (slopes n left) (slopes n left') s (ap (slopes n) e ∙ slopes_cons n m left' ∙ ap (λ x. x ∷ slopes n left') (sym q)) f

pub constant_zero : (z : ℤ) → is_zero_number z ≡ true → constant_terms z ≡ []
unfolding constant_terms
constant_zero z e = rw (e, constant_terms)

pub constant_other : (z : ℤ) → is_zero_number z ≡ false → constant_terms z ≡ monomial 0 z ∷ []
unfolding constant_terms
constant_other z e = rw (e, constant_terms)

pub variable-there : (n i : ℕ) → i < n → variable_terms n i ≡ monomial (32 ^ (n - suc i)) (pos 1) ∷ []
unfolding variable_terms
variable-there n i h = rw (lt-ltb i n h, variable_terms)

pub variable_none : (n i : ℕ) → n ≤ i → variable_terms n i ≡ []
unfolding variable_terms
variable_none n i h = rw (le-ltb i n h, variable_terms)
