-- A tree's answer in a row is what it says at every number that has the row's signs. Assumes nothing.
use Rattle.std.proofs.Common.{◌≡◌, ℕ, Bool, true, false, cond, ◌||◌, T, List, [], ◌∷◌, length, sym, refl, ap, ◌∙◌, inl, inr, ⊎_elim}
use mathlib.Core.List.{map}
use Rattle.field.specs.declared.sign.Sign.{Sign}
use Rattle.field.specs.declared.sign.Sign.TheVariants.{Neg, Zero, Pos}
use Rattle.field.specs.Field.{RealClosedField}
use Rattle.poly.specs.Poly.{Poly}
use Rattle.poly.specs.Arithmetic.{same}
use Rattle.poly.specs.Value.{value, Depth}
use Rattle.poly.proofs.Equality.{value_same}
use Rattle.sign_table.specs.Tree.{Tree, Yes, No, GivenUp, Ask, by_sign}
use Rattle.sign_table.specs.Meaning.{Says, DepthTree, DepthAll}
use Rattle.sign_table.specs.Right.{Member, signs_at}
use Rattle.decision.specs.Asked.{is_among}
use Rattle.decision.specs.RowAnswer.{sign_at, on_row, or_tree, not_tree, some, every}
use Rattle.decision.specs.Eliminate.{over_rows}
use Rattle.decision.proofs.AskNothing.{yes_not_no, AsksNothing, nothing_or, nothing_not, not_yes, not_no, or_yes, or_no}
use Rattle.decision.proofs.Asked.{AllAmong}

module _ {R : Type 0} (f : RealClosedField R) (e : List R) where
  sign_at_lem : (p : Poly) (ps : List Poly) → Depth (length e) p → DepthAll (length e) ps → T (is_among (length e) p ps) → sign_at (length e) p ps (signs_at f ps e) ≡ f.sign (value f p e)
  unfolding sign_at is_among map
  sign_at_lem p [] d ds h = absurd h
  sign_at_lem p (q ∷ qs) d ds h = found (same (length e) p q) (value_same f e p q d ds.0) (sign_at_lem p qs d ds.1) h
    where
      found : (b : Bool) → (T b → value f p e ≡ value f q e) → (T (is_among (length e) p qs) → sign_at (length e) p qs (signs_at f qs e) ≡ f.sign (value f p e)) →
          T (b || is_among (length e) p qs) → cond b (f.sign (value f q e)) (sign_at (length e) p qs (signs_at f qs e)) ≡ f.sign (value f p e)
      found true s later h = ap f.sign (sym (s tt))
      found false s later h = later h

  follow : (what : Tree) (s : Sign) (a b c : Tree) (A B C : Type 0) → (a ≡ what → A) → (b ≡ what → B) → (c ≡ what → C) → by_sign s a b c ≡ what → by_sign s A B C
  follow what Neg a b c A B C ha hb hc h = ha h
  follow what Zero a b c A B C ha hb hc h = hb h
  follow what Pos a b c A B C ha hb hc h = hc h

  pub row_says : (ps : List Poly) → DepthAll (length e) ps → (what t : Tree) → DepthTree (length e) t → AllAmong (length e) t ps →
      on_row (length e) ps (signs_at f ps e) t ≡ what → Says f what t e
  unfolding Says on_row DepthTree AllAmong
  row_says ps ds what Yes d k h = sym h
  row_says ps ds what No d k h = sym h
  row_says ps ds what GivenUp d k h = sym h
  row_says ps ds what (Ask p a b c) d k h =
      let row = signs_at f ps e in
      let n = length e in
      follow what (f.sign (value f p e)) (on_row n ps row a) (on_row n ps row b) (on_row n ps row c) (Says f what a e) (Says f what b e) (Says f what c e)
      (row_says ps ds what a d.1 k.1) (row_says ps ds what b d.2 k.2) (row_says ps ds what c d.3 k.3)
      (ap (λ s. by_sign s (on_row n ps row a) (on_row n ps row b) (on_row n ps row c)) (sym (sign_at_lem p ps d.0 ds k.0)) ∙ h)

module _ (n : ℕ) (ps : List Poly) (t : Tree) where
  -- in some row, and in every row, the tree's answer is this
  abbrev pub InSome : Tree → List (List Sign) → Type 0
  InSome what rows = (row : List Sign) × Member row rows × (on_row n ps row t ≡ what)

  abbrev pub InEvery : Tree → List (List Sign) → Type 0
  InEvery what rows = (row : List Sign) → Member row rows → on_row n ps row t ≡ what

  in_later : (what : Tree) (row : List Sign) (rows : List (List Sign)) → InSome what rows → InSome what (row ∷ rows)
  in_later what row rows h = (h.0, inr h.1, h.2)

  in_both : (what : Tree) (row : List Sign) (rows : List (List Sign)) → on_row n ps row t ≡ what → InEvery what rows → InEvery what (row ∷ rows)
  in_both what row rows h k other m = ⊎_elim (λ q. ap (λ r. on_row n ps r t) q ∙ h) (k other) m

  pub nothing-over : (all : Bool) (rows : List (List Sign)) → AsksNothing (over_rows all n ps t rows)
  unfolding some every
  nothing-over true [] = tt
  nothing-over true (row ∷ rows) = nothing_not _
  nothing-over false [] = tt
  nothing-over false (row ∷ rows) = nothing_or (on_row n ps row t) (some n ps t rows) (nothing-over false rows)

  pub some_yes : (rows : List (List Sign)) → some n ps t rows ≡ Yes → InSome Yes rows
  unfolding some
  some_yes [] h = yes_not_no (sym h)
  some_yes (row ∷ rows) h = ⊎_elim (λ q. (row, inl refl, q)) (λ q. in_later Yes row rows (some_yes rows q)) (or_yes (on_row n ps row t) (some n ps t rows) h)

  pub some_no : (rows : List (List Sign)) → some n ps t rows ≡ No → InEvery No rows
  unfolding some
  some_no [] h = λ row m. absurd m
  some_no (row ∷ rows) h = let (q, r) = or_no (on_row n ps row t) (some n ps t rows) h in in_both No row rows q (some_no rows r)

  pub every_yes : (rows : List (List Sign)) → every n ps t rows ≡ Yes → InEvery Yes rows
  unfolding every
  every_yes [] h = λ row m. absurd m
  every_yes (row ∷ rows) h =
      let here = on_row n ps row t in
      let later = every n ps t rows in
      let (q, r) = or_no (not_tree here) (not_tree later) (not_yes (or_tree (not_tree here) (not_tree later)) h) in
      in_both Yes row rows (not_no here q) (every_yes rows (not_no later r))

  pub every_no : (rows : List (List Sign)) → every n ps t rows ≡ No → InSome No rows
  unfolding every
  every_no [] h = yes_not_no h
  every_no (row ∷ rows) h =
      let here = on_row n ps row t in
      let later = every n ps t rows in
      ⊎_elim (λ q. (row, inl refl, not_yes here q)) (λ q. in_later No row rows (every_no rows (not_yes later q))) (or_yes (not_tree here) (not_tree later) (not_no (or_tree (not_tree here) (not_tree later)) h))
