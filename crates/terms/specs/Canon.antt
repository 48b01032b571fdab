-- Polynomials in n variables whose lists end in no zero and have at most b coefficients each. Assumes nothing.
use Rattle.std.specs.Prelude.{◌≡◌, ℕ, zero, suc, ◌≤◌, not, T, List, [], ◌∷◌, length}
use Rattle.poly.specs.Poly.{Poly, from_coefs, coefs, all_zero}
use Rattle.poly.specs.Value.{Depth}

-- the last isn't zero
unfoldable pub Trimmed : List Poly → Type 0
Trimmed [] = Unit {0}
Trimmed (c ∷ cs) = T (not (all_zero (c ∷ cs))) × Trimmed cs

unfoldable pub AllOf : (Poly → Type 0) → List Poly → Type 0
AllOf P [] = Unit {0}
AllOf P (c ∷ cs) = P c × AllOf P cs

unfoldable pub Canon : ℕ → ℕ → Poly → Type 0
Canon b zero p = Depth zero p
Canon b (suc n) p = (p ≡ from_coefs (coefs p)) × (length (coefs p) ≤ b) × Trimmed (coefs p) × AllOf (Canon b n) (coefs p)
