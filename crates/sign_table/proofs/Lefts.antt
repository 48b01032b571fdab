-- Lists of what is left of polynomials: places in them, and how many variables they have. Assumes nothing.
use mathlib.Core.Path.{◌≡◌, refl}
use mathlib.Core.Bool.{true, false}
use mathlib.Core.List.{List, [], ◌∷◌, ◌++◌}
use Prim.Native.Nat.{ℕ, zero, suc, ◌+◌, ◌<◌}
use native.Mathlib.Omega.{arith}
use lib.Dec.{ltb}
use lib.ListN.{length, get_or}
use Rattle.poly.specs.Poly.{Poly}
use Rattle.poly.specs.Leading.{degree}
use Rattle.poly.specs.Modest.{Checked, TooBig, Fine}
use Rattle.poly.specs.Division.{remainder}
use Rattle.poly.specs.Value.{Depth}
use Rattle.poly.proofs.Depth.{Depth-remainder}
use Rattle.sign_table.specs.Leadings.{Left, Plain, Real, turned_round, reals}
use Rattle.sign_table.specs.Table.{poly_of, leading_sign, polys, highest, without, remainders, fine_ones, none_left}
use Rattle.sign_table.specs.Meaning.{DepthAll}
use Rattle.sign_table.proofs.Along.{on_test}

-- each of them
abbrev pub Every : (Left → Type 0) → List Left → Type 0
Every P [] = Unit {0}
Every P (l ∷ ls) = P l × Every P ls

pub every_map : (P Q : Left → Type 0) → ((l : Left) → P l → Q l) → (ls : List Left) → Every P ls → Every Q ls
every_map P Q g [] h = tt
every_map P Q g (l ∷ ls) h = (g l h.0, every_map P Q g ls h.1)

pub every_turned : (P : Left → Type 0) (ls ms : List Left) → Every P ls → Every P ms → Every P (turned_round ls ms)
unfolding turned_round
every_turned P [] ms h k = k
every_turned P (l ∷ ls) ms h k = every_turned P ls (l ∷ ms) h.1 (h.0, k)

pub every_real : (P : Left → Type 0) (ls : List Left) → Every P ls → Every P (reals ls)
unfolding reals
every_real P [] h = tt
every_real P (Plain s ∷ ls) h = every_real P ls h.1
every_real P (Real q s ∷ ls) h = (h.0, every_real P ls h.1)

pub every-without : (P : Left → Type 0) (i : ℕ) (ls : List Left) → Every P ls → Every P (without i ls)
unfolding without
every-without P i [] h = tt
every-without P zero (l ∷ ls) h = h.1
every-without P (suc i) (l ∷ ls) h = (h.0, every-without P i ls h.1)

pub every_at : (P : Left → Type 0) (i : ℕ) (ls : List Left) → i < length ls → Every P ls → P (get_or ls i none_left)
every_at P i [] k h = absurd (omega arith)
every_at P zero (l ∷ ls) k h = h.0
every_at P (suc i) (l ∷ ls) k h = every_at P i ls (omega arith) h.1

highest_bound : (i b d : ℕ) (ls : List Left) → b < i → highest i b d ls < i + length ls
unfolding highest
highest_bound i b d [] h = omega arith
highest_bound i b d (l ∷ ls) h =
    let later = highest_bound (i + 1) i (degree (poly_of l)) ls (omega arith) in
    let before = highest_bound (i + 1) b d ls (omega arith) in
    on_test (ltb d (degree (poly_of l))) (λ c. (elim c as (λ _. ℕ) [ true ↦ highest (i + 1) i (degree (poly_of l)) ls | false ↦ highest (i + 1) b d ls ]) < i + suc (length ls))
    (λ _. omega (arith, later)) (λ _. omega (arith, before))

-- the place of the highest degree is one of the list
pub highest_within : (l : Left) (ls : List Left) → highest 1 0 (degree (poly_of l)) ls < length (l ∷ ls)
highest_within l ls = let b = highest_bound 1 0 (degree (poly_of l)) ls (omega arith) in omega (arith, b)

-- n: the variables of the coefficients
abbrev pub DepthLeft : ℕ → Left → Type 0
DepthLeft n l = Depth (suc n) (poly_of l)

pub depths_append : (n : ℕ) (ps qs : List Poly) → DepthAll n ps → DepthAll n qs → DepthAll n (ps ++ qs)
depths_append n [] qs h k = k
depths_append n (p ∷ ps) qs h k = (h.0, depths_append n ps qs h.1 k)

pub polys_depths : (n : ℕ) (ls : List Left) → Every (DepthLeft n) ls → DepthAll (suc n) (polys ls)
polys_depths n [] h = tt
polys_depths n (l ∷ ls) h = (h.0, polys_depths n ls h.1)

remainder_depths : (n : ℕ) (p : Poly) → Depth (suc n) p → (ls : List Left) → Every (DepthLeft n) ls → DepthAll (suc n) (fine_ones (remainders n p ls))
unfolding fine_ones
remainder_depths n p d [] h = tt
remainder_depths n p d (l ∷ ls) h = go (remainder n (leading_sign l) (poly_of l) p) refl (remainder_depths n p d ls h.1)
  where
    go : (r : Checked) → remainder n (leading_sign l) (poly_of l) p ≡ r → DepthAll (suc n) (fine_ones (remainders n p ls)) → DepthAll (suc n) (fine_ones (r ∷ remainders n p ls))
    go TooBig r-is rec = rec
    go (Fine r) r-is rec = (Depth-remainder n (leading_sign l) (poly_of l) p r h.0 d r-is, rec)

-- the polynomials of the next table
pub next_depths : (n : ℕ) (p : Poly) → Depth (suc n) p → (ls : List Left) → Every (DepthLeft n) ls → DepthAll (suc n) (polys ls ++ fine_ones (remainders n p ls))
next_depths n p d ls h = depths_append (suc n) (polys ls) (fine_ones (remainders n p ls)) (polys_depths n ls h) (remainder_depths n p d ls h)
