-- A quantifier eliminated by a right table: every number is in a row, and every row has a number. Assumes nothing.
use Rattle.std.proofs.Common.{◌≡◌, ℕ, suc, Bool, true, false, ltb, leb, List, [], ◌∷◌, length, refl, ap, ◌∙◌, inl, inr}
use Rattle.field.specs.declared.sign.Sign.{Sign}
use Rattle.field.specs.Field.{RealClosedField}
use Rattle.poly.specs.Poly.{Poly}
use Rattle.sign_table.specs.Tree.{Tree, Yes, No, GivenUp}
use Rattle.sign_table.specs.Facts.{Fact}
use Rattle.sign_table.specs.Table.{table}
use Rattle.sign_table.specs.Meaning.{Says, YesOrNo, DepthTree, DepthAll}
use Rattle.sign_table.specs.Right.{signs_at, Covered, Attained}
use Rattle.sign_table.proofs.Covers.{right_covers}
use Rattle.sign_table.proofs.Table.{table_right}
use Rattle.sign_table.proofs.TableDepth.{table_depth}
use Rattle.decision.specs.Asked.{asked, questions}
use Rattle.decision.specs.RowAnswer.{on_row}
use Rattle.decision.specs.Eliminate.{over_rows, limited, eliminated}
use Rattle.decision.specs.Theorems.{Eliminates}
use Rattle.decision.proofs.AskNothing.{given_up_refused, Depth-nothing, says_itself}
use Rattle.decision.proofs.Asked.{all_asked, Depth-asked}
use Rattle.decision.proofs.RowAnswer.{row_says, InSome, InEvery, nothing-over, some_yes, some_no, every_yes, every_no}

-- t, or given up where the test fails
abbrev pub unless : Bool → Tree → Tree
unless b t = elim b [ true ↦ t | false ↦ GivenUp ]

Depth-unless : (n : ℕ) (b : Bool) (t : Tree) → DepthTree n t → DepthTree n (unless b t)
unfolding DepthTree
Depth-unless n true t d = d
Depth-unless n false t d = tt

pub Depth-eliminated : (n : ℕ) (all : Bool) (t : Tree) → DepthTree (suc n) t → DepthTree n (eliminated n all t)
unfolding eliminated
Depth-eliminated n all t d =
    let ps = asked (suc n) t [] in
    let u = table 40 n ps [] (λ rows facts. over_rows all (suc n) ps t rows) in
    let du : DepthTree n u = table_depth 40 n ps [] (λ rows facts. over_rows all (suc n) ps t rows) (Depth-asked (suc n) t [] d tt) (λ rows facts. Depth-nothing n (over_rows all (suc n) ps t rows) (nothing-over (suc n) ps t all rows)) in
    Depth-unless n (leb (length ps) 12) (limited u) (Depth-unless n (ltb (questions u) 3500) u du)

module _ {R : Type 0} (f : RealClosedField R) where
  pub says_unless : (e : List R) (what : Tree) (b : Bool) (t : Tree) → YesOrNo what → Says f what (unless b t) e → Says f what t e
  unfolding Says
  says_unless e what true t y s = s
  says_unless e what false t y s = given_up_refused y s

module _ {R : Type 0} (f : RealClosedField R) (t : Tree) (e : List R) (d : DepthTree (suc (length e)) t) where
  abbrev variables : ℕ
  variables = suc (length e)

  -- the polynomials that t asks about
  abbrev ps : List Poly
  ps = asked (suc (length e)) t []

  Depth-ps : DepthAll variables ps
  Depth-ps = Depth-asked variables t [] d tt

  from_table : (all : Bool) (what : Tree) → YesOrNo what → Says f what (eliminated (length e) all t) e →
      (rows : List (List Sign)) × Covered f e ps rows × Attained f e ps rows × (over_rows all variables ps t rows ≡ what)
  unfolding eliminated
  from_table all what y s =
      let k = λ (rows : List (List Sign)) (facts : List Fact). over_rows all variables ps t rows in
      let u = table 40 (length e) ps [] k in
      let su : Says f what u e = says_unless f e what (ltb (questions u) 3500) u y (says_unless f e what (leb (length ps) 12) (limited u) y s) in
      let (rows, gs, right, facts, says) = table_right f e 40 ps [] k what Depth-ps tt y su in
      let (covered, attained) = right_covers f e ps rows right in
      (rows, covered, attained, says_itself f e what (over_rows all variables ps t rows) (nothing-over variables ps t all rows) says)

  says_row : (what : Tree) (x : R) (row : List Sign) → signs_at f ps (x ∷ e) ≡ row → on_row variables ps row t ≡ what → Says f what t (x ∷ e)
  says_row what x row q h = row_says f (x ∷ e) ps Depth-ps what t d (all_asked variables t []) (ap (λ r. on_row variables ps r t) q ∙ h)

  at_some : (what : Tree) (rows : List (List Sign)) → Attained f e ps rows → InSome variables ps t what rows → (x : R) × Says f what t (x ∷ e)
  at_some what rows attained (row, member, h) = let (x, q) = attained row member in (x, says_row what x row q h)

  at_every : (what : Tree) (rows : List (List Sign)) → Covered f e ps rows → InEvery variables ps t what rows → (x : R) → Says f what t (x ∷ e)
  at_every what rows covered h x = let (row, member, q) = covered x in says_row what x row q (h row member)

  left_some_yes : Says f Yes (eliminated (length e) false t) e → (x : R) × Says f Yes t (x ∷ e)
  left_some_yes s = let (rows, covered, attained, h) = from_table false Yes (inl refl) s in at_some Yes rows attained (some_yes variables ps t rows h)

  left_some_no : Says f No (eliminated (length e) false t) e → (x : R) → Says f No t (x ∷ e)
  left_some_no s = let (rows, covered, attained, h) = from_table false No (inr refl) s in at_every No rows covered (some_no variables ps t rows h)

  left_every_yes : Says f Yes (eliminated (length e) true t) e → (x : R) → Says f Yes t (x ∷ e)
  left_every_yes s = let (rows, covered, attained, h) = from_table true Yes (inl refl) s in at_every Yes rows covered (every_yes variables ps t rows h)

  left_every_no : Says f No (eliminated (length e) true t) e → (x : R) × Says f No t (x ∷ e)
  left_every_no s = let (rows, covered, attained, h) = from_table true No (inr refl) s in at_some No rows attained (every_no variables ps t rows h)

pub eliminates : {R : Type 0} (f : RealClosedField R) → Eliminates f
eliminates f =
    record {
      some_yes = left_some_yes f;
      some_no = left_some_no f;
      every_yes = left_every_yes f;
      every_no = left_every_no f;
    }
