-- What a tree says in some row, or in every row, as rows come one by one. Assumes nothing.
use Rattle.std.specs.Prelude.{Bool, true, false, List, ℕ}
use Rattle.field.specs.declared.sign.Sign.{Sign}
use Rattle.poly.specs.Poly.{Poly}
use Rattle.sign_table.specs.Tree.{Tree, Yes, No}
use Rattle.decision.specs.RowAnswer.{on_row, or_tree, not_tree}

-- of two answers: no if one is no, yes if both are yes
abbrev pub and_tree : Tree → Tree → Tree
and_tree a b = not_tree (or_tree (not_tree a) (not_tree b))

-- the answer before the first row, to "every" or to "some"
abbrev pub before : Bool → Tree
before true = Yes
before false = No

-- the answer so far, with one more row's
abbrev pub joined : Bool → Tree → Tree → Tree
joined true a b = and_tree a b
joined false a b = or_tree a b

abbrev pub with_row : Bool → ℕ → List Poly → Tree → Tree → List Sign → Tree
with_row all n ps t a row = joined all a (on_row n ps row t)
