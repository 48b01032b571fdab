-- The polynomials that a tree asks about, by the numbers that name them. Assumes nothing.
use Rattle.std.specs.Prelude.{◌≡◌, ℕ, ◌<◌, Bool, false, cond, T, List, [], ◌∷◌, ◌++◌, map, reverse, length, get_or, ℤ, pos, Ok, Err, Result, ◌==◌, slice_index_or}
use Rattle.std.specs.List.{list_any}
use Rattle.poly.specs.Poly.{Poly, End}
use Rattle.poly.specs.Arithmetic.{same}
use Rattle.sign_table.specs.Tree as sign
use Rattle.decision.specs.Asked.{asked}
use Rattle.question.specs.declared.tree.Tree.{Tree}
use Rattle.question.specs.Cells.{small_of}
use Rattle.question.specs.Denote.{Earlier, IsTree}

-- whether a number is among these
abbrev pub has_name : ℕ → List ℤ → Bool
has_name k = list_any (λ z. small_of z == k)

-- a name behind the others, unless it stands there already
abbrev pub with_name : ℕ → List ℤ → List ℤ
with_name k zs = cond (has_name k zs) zs (zs ++ (pos k ∷ []))

-- the polynomials that are named, the newest first
abbrev pub named_by : List Poly → List ℤ → List Poly
named_by ps zs = map (λ z. get_or ps (small_of z) End) (reverse zs)

abbrev pub AllNamed : List Poly → List ℤ → Type 0
AllNamed ps [] = Unit {0}
AllNamed ps (z ∷ zs) = (small_of z < length ps) × AllNamed ps zs

-- no two of the polynomials are the same
abbrev pub Apart : ℕ → List Poly → Type 0
Apart n ps = (i j : ℕ) → i < length ps → j < length ps → T (same n (slice_index_or ps i End) (slice_index_or ps j End)) → i ≡ j

-- the name is noted, or there is no room for one more
abbrev pub Notes : {E : Type 0} → Result (Unit {0}) E → ℕ → List ℤ → ℕ → List ℤ → Type 0
Notes (Ok _) k zs room after = after ≡ with_name k zs
Notes (Err _) k zs room after = (has_name k zs ≡ false) × (length zs ≡ room)

-- all that the tree asks about is noted, in the order of asking; or it would be more than there is room for
abbrev pub Collected : {E : Type 0} → Result (Unit {0}) E → ℕ → List Poly → List Poly → List ℤ → ℕ → Type 0
Collected (Ok _) n ps qs after room = (named_by ps after ≡ qs) × AllNamed ps after
Collected (Err _) n ps qs after room = room < length qs

abbrev pub Collects : {E : Type 0} → List ℤ → ℕ → Tree → List ℤ → Result (Unit {0}) E → List ℤ → ℕ → Type 0
Collects cells limit t before r after room =
    (n : ℕ) (ps : List Poly) (s : sign.Tree) → Apart n ps → AllNamed ps before → IsTree ps cells s t → Earlier limit t →
    Collected r n ps (asked n s (named_by ps before)) after room
