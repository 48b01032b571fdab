-- How long the arrays get, and how many polynomials of a table can be real. Assumes nothing.
use mathlib.Core.Path.{◌≡◌, refl, ap}
use mathlib.Core.List.{List, [], ◌∷◌}
use Prim.Native.Nat.{ℕ, zero, suc, ◌+◌, ◌≤◌, ◌<◌}
use native.Mathlib.Omega.{arith}
use lib.ListN.{length, get_or}
use Rattle.sign_table.specs.Leadings.{Left, Plain, Real, turned_round, reals}
use Rattle.sign_table.specs.Table.{without, none_left}
use Rattle.sign_table.proofs.Lefts.{highest_within}
use Rattle.machine.specs.Machine.{divisors, highest_place}
use Rattle.machine.specs.Stacks.{Marks, Marked, Memory, back, deepest, lefts_end, polys_end, facts_end, frames_end, Fits}
use Rattle.machine.specs.Theorems.{all_lefts}

pub bounds : (mem : Memory) (m : Marks) (k : ℕ) → Fits mem m k → (polys_end m ≤ 2521) × (lefts_end m ≤ polys_end m) × (frames_end m ≤ deepest) × (facts_end m ≡ frames_end m + k)
bounds mem (Marked looks base done ahead p facts frames) k fits =
    let b = fits.base_bound in
    let d = fits.depth_bound in
    let z = fits.size_bound in
    (omega arith, omega arith, d, fits.facts_count)

pub room_below : (mem : Memory) (m : Marks) (k : ℕ) → Fits mem m k → frames_end m < deepest → lefts_end m + 64 ≤ 2521
room_below mem (Marked looks base done ahead p facts frames) k fits deep =
    let b = fits.base_bound in
    let l = fits.looks_bound in
    omega arith

length_back : {A : Type 0} (f : ℕ → A) (k : ℕ) → length (back f k) ≡ k
unfolding back
length_back f zero = refl
length_back f (suc k) = ap suc (length_back f k)

length_turned : (ls ms : List Left) → length (turned_round ls ms) ≡ length ls + length ms
unfolding turned_round
length_turned [] ms = omega arith
length_turned (l ∷ ls) ms = let e = length_turned ls (l ∷ ms) in omega arith

fewer-reals : (ls : List Left) → length (reals ls) ≤ length ls
unfolding reals
fewer-reals [] = omega arith
fewer-reals (Plain s ∷ ls) = let h = fewer-reals ls in omega arith
fewer-reals (Real p s ∷ ls) = let h = fewer-reals ls in omega arith

pub reals_count : (mem : Memory) (m : Marks) (k : ℕ) → Fits mem m k → length (reals (all_lefts mem m)) ≤ 63
reals_count mem (Marked looks base done ahead p facts frames) k fits =
    let ls = back (λ i. mem.left_at (base + i)) done in
    let h = fewer-reals (turned_round ls []) in
    let t = length_turned ls [] in
    let e = length_back (λ i. mem.left_at (base + i)) done in
    let l = fits.looks_bound in
    omega arith

length_without : (i : ℕ) (ls : List Left) → i < length ls → suc (length (without i ls)) ≡ length ls
unfolding without
length_without i [] h = absurd (omega arith)
length_without zero (l ∷ ls) h = refl
length_without (suc i) (l ∷ ls) h = let less : i < length ls = omega arith in ap suc (length_without i ls less)

pub divisors_count : (n : ℕ) (l : Left) (ls : List Left) → let i = highest_place l ls in
    length (divisors n (get_or (l ∷ ls) i none_left) (without i (l ∷ ls))) ≡ length (l ∷ ls)
divisors_count n l ls = length_without (highest_place l ls) (l ∷ ls) (highest_within l ls)
