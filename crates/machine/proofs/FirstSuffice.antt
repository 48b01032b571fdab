-- Polynomials past those that may be looked at don't matter. Assumes nothing.
use mathlib.Core.Path.{◌≡◌, refl, ap}
use mathlib.Core.List.{List, [], ◌∷◌}
use Prim.Native.Nat.{ℕ, zero, suc, ◌+◌, ◌<◌}
use native.Mathlib.Omega.{arith}
use lib.ListN.{take}
use Rattle.field.specs.declared.sign.Sign.{Sign}
use Rattle.field.specs.declared.sign.Sign.TheVariants.{Neg, Zero, Pos}
use Rattle.poly.specs.Poly.{Poly, is_zero}
use Rattle.poly.specs.Leading.{leading, without_leading}
use Rattle.sign_table.specs.Tree.{Tree}
use Rattle.sign_table.specs.Facts.{Fact, ask}
use Rattle.sign_table.specs.Leadings.{Left, Plain, left_of, headed, leadings}
use Rattle.machine.specs.Theorems.{FirstSuffice}
use Rattle.machine.proofs.Related.{related_test}

taken_suffice : (n : ℕ) (k : List Left → List Fact → Tree) (looks m : ℕ) → looks < m → (ps : List Poly) (ls : List Left) (fs : List Fact) →
    leadings looks n (take m ps) ls fs k ≡ leadings looks n ps ls fs k
unfolding leadings
taken_suffice n k zero zero h ps ls fs = absurd (omega arith)
taken_suffice n k (suc looks) zero h ps ls fs = absurd (omega arith)
taken_suffice n k zero (suc m) h [] ls fs = refl
taken_suffice n k zero (suc m) h (p ∷ ps) ls fs = refl
taken_suffice n k (suc looks) (suc m) h [] ls fs = refl
taken_suffice n k (suc looks) (suc m) h (p ∷ ps) ls fs =
    let less : looks < m = omega arith in
    let less' : looks < suc m = omega arith in
    related_test (λ t u. t ≡ u) (is_zero p) _ _ _ _ (taken_suffice n k looks m less ps (Plain Zero ∷ ls) fs)
    (ap (ask n (leading n p) fs) (λ i s gs. by_sign s gs (λ qs ms. taken_suffice n k looks m less qs ms gs) (λ qs ms. taken_suffice n k looks (suc m) less' qs ms gs) i))
  where
    by_sign : (s : Sign) (gs : List Fact) → ((qs : List Poly) (ms : List Left) → leadings looks n (take m qs) ms gs k ≡ leadings looks n qs ms gs k) →
        ((qs : List Poly) (ms : List Left) → leadings looks n (take (suc m) qs) ms gs k ≡ leadings looks n qs ms gs k) →
        headed p s (take m ps) ls (λ qs ms. leadings looks n qs ms gs k) ≡ headed p s ps ls (λ qs ms. leadings looks n qs ms gs k)
    by_sign Neg gs rec more = rec ps (left_of p Neg ∷ ls)
    by_sign Zero gs rec more = more (without_leading p ∷ ps) ls
    by_sign Pos gs rec more = rec ps (left_of p Pos ∷ ls)

pub first_suffice : FirstSuffice
first_suffice looks n ps ls fs k = taken_suffice n k looks (looks + 1) (omega arith) ps ls fs
