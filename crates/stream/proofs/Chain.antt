-- A chain of tables: a push and a close keep what the sink will be, and a whole run gives it the outermost table's rows. Assumes nothing.
use mathlib.Core.Path.{◌≡◌, refl, sym, ◌∙◌, ap}
use mathlib.Core.List.{List, [], ◌∷◌, ◌++◌, foldl, append-nil}
use Rattle.field.specs.declared.sign.Sign.{Sign}
use Rattle.stream.specs.Stage.{Stage, Outcome, Went, upon, table_rows, outermost_rows}
use Rattle.stream.specs.Step.{Cell, Stepped, stepped, closing, flow}
use Rattle.stream.specs.Chain.{State, pushed_all, pushed, closed, fresh, meaning, run}
use Rattle.stream.proofs.Outcome.{upon-upon, upon_swap, upon-same}
use Rattle.stream.proofs.Flow.{flow_deduces}

module _ {A : Type 0} (grow : A → List Sign → A) where
  -- what the sink will be after these states, when the rows m come
  abbrev later : List Stage → List (List Sign) → State A → Outcome A
  later fs m s = meaning grow fs s.cells s.sink m

  -- a push changes nothing of what the sink will be
  abbrev Advances : List Stage → Type 0
  Advances fs = (cs : List Cell) (a : A) (r : List Sign) (m : List (List Sign)) → meaning grow fs cs a (r ∷ m) ≡ upon (pushed grow fs cs a r) (later fs m)

  all-advance : (fs : List Stage) → Advances fs → (cs : List Cell) (a : A) (out m : List (List Sign)) →
      meaning grow fs cs a (out ++ m) ≡ upon (pushed_all (pushed grow fs) cs a out) (later fs m)
  unfolding pushed_all
  all-advance fs h cs a [] m = refl
  all-advance fs h cs a (r ∷ out) m =
      h cs a r (out ++ m)
      ∙ upon-same (pushed grow fs cs a r) (λ s. all-advance fs h s.cells s.sink out m)
      ∙ sym (upon-upon (pushed grow fs cs a r) (λ s. pushed_all (pushed grow fs) s.cells s.sink out) (later fs m))

  -- the same where the first table has stepped
  step_advances : (f : Stage) (fs : List Stage) → Advances fs → (cs : List Cell) (a : A) (m : List (List Sign)) (s : Stepped) →
      upon (upon (flow f s.cell m) (λ out. Went (s.leaving ++ out))) (meaning grow fs cs a) ≡
      upon (upon (pushed_all (pushed grow fs) cs a s.leaving) (λ t. Went (record { cells = s.cell ∷ t.cells; sink = t.sink }))) (later (f ∷ fs) m)
  unfolding meaning
  step_advances f fs h cs a m s =
      let p = pushed_all (pushed grow fs) cs a s.leaving in
      let q = flow f s.cell m in
      upon-upon q (λ out. Went (s.leaving ++ out)) (meaning grow fs cs a)
      ∙ upon-same q (λ out. all-advance fs h cs a s.leaving out)
      ∙ upon_swap q p (λ out t. later fs out t)
      ∙ sym (upon-upon p (λ t. Went (record { cells = s.cell ∷ t.cells; sink = t.sink })) (later (f ∷ fs) m))

  pub push_advances : (fs : List Stage) → Advances fs
  unfolding meaning pushed flow
  push_advances [] cs a r m = refl
  push_advances (f ∷ fs) [] a r m = refl
  push_advances (f ∷ fs) (c ∷ cs) a r m =
      upon-upon (stepped f c r) (λ s. upon (flow f s.cell m) (λ out. Went (s.leaving ++ out))) (meaning grow fs cs a)
      ∙ upon-same (stepped f c r) (step_advances f fs (push_advances fs) cs a m)
      ∙ sym (upon-upon (stepped f c r) (λ s. upon (pushed_all (pushed grow fs) cs a s.leaving) (λ t. Went (record { cells = s.cell ∷ t.cells; sink = t.sink }))) (later (f ∷ fs) m))

  pub close-answers : (fs : List Stage) (cs : List Cell) (a : A) → meaning grow fs cs a [] ≡ closed grow fs cs a
  unfolding meaning closed flow
  close-answers [] cs a = refl
  close-answers (f ∷ fs) [] a = refl
  close-answers (f ∷ fs) (c ∷ cs) a =
      upon-same (closing f c) (λ out.
      ap (meaning grow fs cs a) (sym (append-nil out))
      ∙ all-advance fs (push_advances fs) cs a out []
      ∙ upon-same (pushed_all (pushed grow fs) cs a out) (λ t. close-answers fs t.cells t.sink))

  fresh-means : (fs : List Stage) (a : A) (m : List (List Sign)) → meaning grow fs (fresh fs) a m ≡ upon (outermost_rows fs m) (λ rows. Went (foldl grow a rows))
  unfolding meaning outermost_rows
  fresh-means [] a m = refl
  fresh-means (f ∷ fs) a m =
      ap (λ r. upon r (λ out. meaning grow fs (fresh fs) a out)) (flow_deduces f m)
      ∙ upon-same (table_rows f m) (fresh-means fs a)
      ∙ sym (upon-upon (table_rows f m) (outermost_rows fs) (λ rows. Went (foldl grow a rows)))

  pub run_resumes : (fs : List Stage) (a : A) (r : List Sign) → run grow fs a r ≡ upon (outermost_rows fs (r ∷ [])) (λ rows. Went (foldl grow a rows))
  run_resumes fs a r =
      upon-same (pushed grow fs (fresh fs) a r) (λ s. sym (close-answers fs s.cells s.sink))
      ∙ sym (push_advances fs (fresh fs) a r [])
      ∙ fresh-means fs a (r ∷ [])
