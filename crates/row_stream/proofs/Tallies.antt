-- The answer that a sink keeps, row after row, is the answer over all the rows. Assumes nothing.
use Rattle.std.proofs.Common.{◌≡◌, List, [], ◌∷◌, Result, sym, refl, ap, ◌∙◌}
use mathlib.Core.Path.{fun_ext}
use mathlib.Core.List.{foldl}
use Rattle.field.specs.declared.sign.Sign.{Sign}
use Rattle.sign_table.specs.Tree.{Tree}
use Rattle.stream.specs.Stage.{Stage as TableStage, Went, upon, outermost_rows}
use Rattle.stream.specs.Chain.{run}
use Rattle.stream.specs.Fold.{before, joined}
use Rattle.stream.specs.Resume.{answered}
use Rattle.stream.proofs.Chain.{run_resumes}
use Rattle.stream.proofs.Resume.{answered-upon}
use Rattle.words.specs.declared.answer.Answer.{Answer}
use Rattle.words.specs.declared.answer.Answer.TheVariants.{Yes, No, GivenUp}
use Rattle.row_stream.specs.declared.leaving.Gap.{Gap as RowGap}
use Rattle.words.specs.declared.quantifier.Quantifier.{Quantifier}
use Rattle.words.specs.declared.quantifier.Quantifier.TheVariants.{Exists, ForAll}
use Rattle.row_stream.specs.declared.tally.Tally.{Tally}
use Rattle.words.specs.Joined.{before_of, join_of}
use Rattle.words.specs.Quantifier.{over_all}
use Rattle.row_stream.specs.Joined.{tree_of}
use Rattle.row_stream.specs.Reached.{ended}

before_tree : (q : Quantifier) → tree_of (before_of q) ≡ before (over_all q)
before_tree ForAll = refl
before_tree Exists = refl

join_tree : (q : Quantifier) (a b : Answer) → tree_of (join_of q a b) ≡ joined (over_all q) (tree_of a) (tree_of b)
join_tree Exists Yes b = refl
join_tree Exists No b = refl
join_tree Exists GivenUp Yes = refl
join_tree Exists GivenUp No = refl
join_tree Exists GivenUp GivenUp = refl
join_tree ForAll Yes Yes = refl
join_tree ForAll Yes No = refl
join_tree ForAll Yes GivenUp = refl
join_tree ForAll No b = refl
join_tree ForAll GivenUp Yes = refl
join_tree ForAll GivenUp No = refl
join_tree ForAll GivenUp GivenUp = refl

module _ {J : Type 0} (says : J → List Sign → Answer) where
  abbrev pub tallied : Tally J → List Sign → Tally J
  tallied t row = record { judge = t.judge; quantifier = t.quantifier; answer = join_of t.quantifier t.answer (says t.judge row) }

  tally_fold : (t : Tally J) (rows : List (List Sign)) →
      tree_of (foldl tallied t rows).answer ≡ foldl (λ a s. joined (over_all t.quantifier) a (tree_of (says t.judge s))) (tree_of t.answer) rows
  tally_fold t [] = refl
  tally_fold t (row ∷ rows) =
      tally_fold (tallied t row) rows
      ∙ ap (λ a. foldl (λ u s. joined (over_all t.quantifier) u (tree_of (says t.judge s))) a rows) (join_tree t.quantifier t.answer (says t.judge row))

  pub tally_run : (judge : J) (q : Quantifier) (first : Answer) (fs : List TableStage) (row : List Sign) (through : Result Unit RowGap) (last : Tally J) → first ≡ before_of q →
      ended through last ≡ upon (outermost_rows fs (row ∷ [])) (λ rows. Went (foldl tallied (record { judge = judge; quantifier = q; answer = first }) rows)) →
      answered (λ t. tree_of t.answer) (ended through last) ≡ answered (λ u. u) (run (λ a s. joined (over_all q) a (tree_of (says judge s))) fs (before (over_all q)) row)
  tally_run judge q first fs row through last h e =
      let t : Tally J = record { judge = judge; quantifier = q; answer = first } in
      let grow : Tree → List Sign → Tree = λ a s. joined (over_all q) a (tree_of (says judge s)) in
      let m = outermost_rows fs (row ∷ []) in
      ap (answered (λ u. tree_of u.answer)) e
      ∙ answered-upon (foldl tallied t) (λ u. tree_of u.answer) m
      ∙ ap (λ k. answered k m) (fun_ext (tally_fold t))
      ∙ ap (λ a. answered (foldl grow a) m) (ap tree_of h ∙ before_tree q)
      ∙ sym (answered-upon (foldl grow (before (over_all q))) (λ u. u) m)
      ∙ ap (answered (λ u. u)) (sym (run_resumes grow fs (before (over_all q)) row))
