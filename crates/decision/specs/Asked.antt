-- Which polynomials in n variables a tree asks about, each once, and how many questions it has. Assumes nothing.
use Rattle.std.specs.Prelude.{ℕ, ◌+◌, Bool, false, cond, ◌||◌, List, [], ◌∷◌}
use Rattle.poly.specs.Poly.{Poly}
use Rattle.poly.specs.Arithmetic.{same}
use Rattle.sign_table.specs.Tree.{Tree, Yes, No, GivenUp, Ask}

unfoldable pub is_among : ℕ → Poly → List Poly → Bool
is_among n p [] = false
is_among n p (q ∷ qs) = same n p q || is_among n p qs

-- those of the tree in front of ps: a question's own before those below, at and above it; of equal ones only the last is kept
unfoldable pub asked : ℕ → Tree → List Poly → List Poly
asked n Yes ps = ps
asked n No ps = ps
asked n GivenUp ps = ps
asked n (Ask p a b c) ps = let qs = asked n a (asked n b (asked n c ps)) in cond (is_among n p qs) qs (p ∷ qs)

unfoldable pub questions : Tree → ℕ
questions Yes = 0
questions No = 0
questions GivenUp = 0
questions (Ask p a b c) = 1 + (questions a + (questions b + questions c))
