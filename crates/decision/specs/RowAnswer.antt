-- What a tree says where the polynomials ps have the signs of a row, and whether it says so in some row or in every row. Assumes nothing.
use Rattle.std.specs.Prelude.{ℕ, cond, List, [], ◌∷◌}
use Rattle.field.specs.declared.sign.Sign.{Sign}
use Rattle.field.specs.declared.sign.Sign.TheVariants.{Zero}
use Rattle.poly.specs.Poly.{Poly}
use Rattle.poly.specs.Arithmetic.{same}
use Rattle.sign_table.specs.Tree.{Tree, Yes, No, GivenUp, Ask, by_sign}

-- the row's sign of the first of ps that is the same as p; Zero if there is none
unfoldable pub sign_at : ℕ → Poly → List Poly → List Sign → Sign
sign_at n p [] row = Zero
sign_at n p (q ∷ qs) [] = Zero
sign_at n p (q ∷ qs) (s ∷ row) = cond (same n p q) s (sign_at n p qs row)

-- the tree's answer in a row
unfoldable pub on_row : ℕ → List Poly → List Sign → Tree → Tree
on_row n ps row Yes = Yes
on_row n ps row No = No
on_row n ps row GivenUp = GivenUp
on_row n ps row (Ask p a b c) = by_sign (sign_at n p ps row) (on_row n ps row a) (on_row n ps row b) (on_row n ps row c)

-- of two answers: yes if one is yes, no if both are no. A question is no answer
abbrev pub or_tree : Tree → Tree → Tree
or_tree Yes t = Yes
or_tree No t = t
or_tree GivenUp Yes = Yes
or_tree GivenUp No = GivenUp
or_tree GivenUp GivenUp = GivenUp
or_tree GivenUp (Ask p a b c) = GivenUp
or_tree (Ask p a b c) t = GivenUp

abbrev pub not_tree : Tree → Tree
not_tree Yes = No
not_tree No = Yes
not_tree GivenUp = GivenUp
not_tree (Ask p a b c) = GivenUp

unfoldable pub some : ℕ → List Poly → Tree → List (List Sign) → Tree
some n ps t [] = No
some n ps t (row ∷ rows) = or_tree (on_row n ps row t) (some n ps t rows)

unfoldable pub every : ℕ → List Poly → Tree → List (List Sign) → Tree
every n ps t [] = Yes
every n ps t (row ∷ rows) = not_tree (or_tree (not_tree (on_row n ps row t)) (not_tree (every n ps t rows)))
