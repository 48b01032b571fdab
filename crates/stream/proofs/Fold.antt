-- What a tree says in some row, or in every row, found from the first row on. Assumes nothing.
use mathlib.Core.Path.{◌≡◌, refl, sym, ◌∙◌, ap}
use mathlib.Core.Bool.{Bool, true, false}
use mathlib.Core.List.{List, [], ◌∷◌, foldl}
use Prim.Native.Nat.{ℕ}
use Rattle.field.specs.declared.sign.Sign.{Sign}
use Rattle.field.specs.declared.sign.Sign.TheVariants.{Neg, Zero, Pos}
use Rattle.poly.specs.Poly.{Poly}
use Rattle.sign_table.specs.Tree.{Tree, Yes, No, GivenUp, Ask, by_sign}
use Rattle.decision.specs.RowAnswer.{sign_at, on_row, or_tree, not_tree, some, every}
use Rattle.decision.specs.Eliminate.{over_rows}
use Rattle.decision.proofs.AskNothing.{AsksNothing, nothing_or, nothing_not}
use Rattle.stream.specs.Fold.{and_tree, before, with_row}

nothing_by_sign : (s : Sign) (a b c : Tree) → AsksNothing a → AsksNothing b → AsksNothing c → AsksNothing (by_sign s a b c)
nothing_by_sign Neg a b c ha hb hc = ha
nothing_by_sign Zero a b c ha hb hc = hb
nothing_by_sign Pos a b c ha hb hc = hc

row_asks-nothing : (n : ℕ) (ps : List Poly) (row : List Sign) (t : Tree) → AsksNothing (on_row n ps row t)
unfolding on_row
row_asks-nothing n ps row Yes = tt
row_asks-nothing n ps row No = tt
row_asks-nothing n ps row GivenUp = tt
row_asks-nothing n ps row (Ask p a b c) =
    nothing_by_sign (sign_at n p ps row) (on_row n ps row a) (on_row n ps row b) (on_row n ps row c)
    (row_asks-nothing n ps row a) (row_asks-nothing n ps row b) (row_asks-nothing n ps row c)

or_no : (a : Tree) → AsksNothing a → a ≡ or_tree a No
or_no Yes h = refl
or_no No h = refl
or_no GivenUp h = refl
or_no (Ask p a b c) h = absurd h

or_given_up : (c : Tree) → or_tree GivenUp c ≡ or_tree GivenUp (or_tree GivenUp c)
or_given_up Yes = refl
or_given_up No = refl
or_given_up GivenUp = refl
or_given_up (Ask p a b c) = refl

or_assoc : (a b c : Tree) → AsksNothing a → AsksNothing b → or_tree (or_tree a b) c ≡ or_tree a (or_tree b c)
or_assoc Yes b c ha hb = refl
or_assoc No b c ha hb = refl
or_assoc GivenUp Yes c ha hb = refl
or_assoc GivenUp No c ha hb = refl
or_assoc GivenUp GivenUp c ha hb = or_given_up c
or_assoc GivenUp (Ask p u v w) c ha hb = absurd hb
or_assoc (Ask p u v w) b c ha hb = absurd ha

not_not : (a : Tree) → AsksNothing a → not_tree (not_tree a) ≡ a
not_not Yes h = refl
not_not No h = refl
not_not GivenUp h = refl
not_not (Ask p a b c) h = absurd h

module _ (n : ℕ) (ps : List Poly) (t : Tree) where
  some_from : (a : Tree) → AsksNothing a → (rows : List (List Sign)) → foldl (with_row false n ps t) a rows ≡ or_tree a (some n ps t rows)
  unfolding some
  some_from a h [] = or_no a h
  some_from a h (row ∷ rows) =
      let b = on_row n ps row t in
      let hb = row_asks-nothing n ps row t in
      some_from (or_tree a b) (nothing_or a b hb) rows ∙ or_assoc a b (some n ps t rows) h hb

  every_from : (a : Tree) → AsksNothing a → (rows : List (List Sign)) → foldl (with_row true n ps t) a rows ≡ and_tree a (every n ps t rows)
  unfolding every
  every_from a h [] = sym (not_not a h) ∙ ap not_tree (or_no (not_tree a) (nothing_not a))
  every_from a h (row ∷ rows) =
      let b = on_row n ps row t in
      let u = every n ps t rows in
      let c = or_tree (not_tree a) (not_tree b) in
      every_from (and_tree a b) (nothing_not c) rows
      ∙ ap (λ z. not_tree (or_tree z (not_tree u))) (not_not c (nothing_or (not_tree a) (not_tree b) (nothing_not b)))
      ∙ ap not_tree (or_assoc (not_tree a) (not_tree b) (not_tree u) (nothing_not a) (nothing_not b))
      ∙ ap (λ z. not_tree (or_tree (not_tree a) z)) (sym (not_not (or_tree (not_tree b) (not_tree u)) (nothing_or (not_tree b) (not_tree u) (nothing_not u))))

  every-asks-nothing : (rows : List (List Sign)) → AsksNothing (every n ps t rows)
  unfolding every
  every-asks-nothing [] = tt
  every-asks-nothing (row ∷ rows) = nothing_not (or_tree (not_tree (on_row n ps row t)) (not_tree (every n ps t rows)))

  pub rows_fold : (all : Bool) (rows : List (List Sign)) → over_rows all n ps t rows ≡ foldl (with_row all n ps t) (before all) rows
  rows_fold true rows = sym (not_not (every n ps t rows) (every-asks-nothing rows)) ∙ sym (every_from Yes tt rows)
  rows_fold false rows = sym (some_from No tt rows)
