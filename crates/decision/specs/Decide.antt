-- A sentence decided: its quantifiers are eliminated, from the innermost, and what is left asks about numbers alone. Assumes nothing.
use Rattle.std.specs.Prelude.{Bool, true, false, List, [], ◌∷◌, length, nat_lt}
use Rattle.field.specs.Sign.{sign_of}
use Rattle.field.specs.Sentence.{Sentence}
use Rattle.poly.specs.Poly.{the_number}
use Rattle.sign_table.specs.Tree.{Tree, Yes, No, GivenUp, Ask, by_sign}
use Rattle.decision.specs.FormulaTree.{formula_tree}
use Rattle.decision.specs.Asked.{questions}
use Rattle.decision.specs.Eliminate.{eliminated}

-- the innermost quantifier first
unfoldable pub decided : List Bool → Tree → Tree
decided [] t = t
decided (q ∷ qs) t = decided qs (eliminated (length qs) q t)

-- the answer of a tree without variables
unfoldable pub plain : Tree → Tree
plain Yes = Yes
plain No = No
plain GivenUp = GivenUp
plain (Ask p a b c) = by_sign (sign_of (the_number p)) (plain a) (plain b) (plain c)

-- the body's tree, about as many variables as there are quantifiers
abbrev pub sentence_tree : Sentence → Tree
sentence_tree s = formula_tree (length s.quantifiers) s.body Yes No

-- Yes, No or GivenUp; a formula with 3,500 questions or more is given up
unfoldable pub decide : Sentence → Tree
decide s =
    let t = sentence_tree s in
    elim (nat_lt (questions t) 3500) [ true ↦ plain (decided s.quantifiers t) | false ↦ GivenUp ]
