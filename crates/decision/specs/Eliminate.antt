-- One quantifier eliminated: from a tree about n + 1 variables to one about n. Assumes nothing.
use Rattle.std.specs.Prelude.{ℕ, suc, Bool, true, false, List, [], length, nat_le, nat_lt}
use Rattle.field.specs.declared.sign.Sign.{Sign}
use Rattle.poly.specs.Poly.{Poly}
use Rattle.sign_table.specs.Tree.{Tree, GivenUp}
use Rattle.sign_table.specs.Table.{table}
use Rattle.decision.specs.Asked.{asked, questions}
use Rattle.decision.specs.RowAnswer.{some, every}

-- the answer over all the rows: to "every" or to "some"
abbrev pub over_rows : Bool → ℕ → List Poly → Tree → List (List Sign) → Tree
over_rows true n ps t rows = every n ps t rows
over_rows false n ps t rows = some n ps t rows

-- with 3,500 questions or more it is given up
abbrev pub limited : Tree → Tree
limited t = elim (nat_lt (questions t) 3500) [ true ↦ t | false ↦ GivenUp ]

-- all: whether the quantifier is every. A table is made for at most 12 polynomials, 40 tables deep
unfoldable pub eliminated : ℕ → Bool → Tree → Tree
eliminated n all t =
    let ps = asked (suc n) t [] in
    elim (nat_le (length ps) 12) [
      | true ↦ limited (table 40 n ps [] (λ rows facts. over_rows all (suc n) ps t rows))
      | false ↦ GivenUp
    ]
