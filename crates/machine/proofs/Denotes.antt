-- A step keeps the tree that a state comes to. Assumes nothing.
use mathlib.Core.Path.{◌≡◌, refl, ◌∙◌}
use mathlib.Core.Bool.{Bool, true, false}
use mathlib.Core.List.{List, [], ◌∷◌}
use Prim.Native.Nat.{ℕ, zero, suc}
use Rattle.field.specs.declared.sign.Sign.{Sign}
use Rattle.field.specs.declared.sign.Sign.TheVariants.{Neg, Zero, Pos}
use Rattle.poly.specs.Poly.{Poly, is_zero}
use Rattle.poly.specs.Leading.{leading}
use Rattle.sign_table.specs.Tree.{Tree}
use Rattle.sign_table.specs.Facts.{Fact, Known, Unknown, Is, known, ask_known}
use Rattle.sign_table.specs.Leadings.{Left, Plain, headed, turned_round, leadings, reals, filled_all}
use Rattle.sign_table.specs.Table.{real_table, table}
use Rattle.machine.specs.Machine.{Frame, Settling, Above, At, Below, Question, Open, State, Looking, Returning, building, resume, looked_at, step, steps, start, enclosed, denote}
use Rattle.machine.proofs.Settles.{begun_worth, settled_worth}

module _ (leaf : List (List Sign) → Tree) (n : ℕ) where
  looked_at-denotes : (b : Bool) (k : Known) (p : Poly) (depth looks : ℕ) (ps : List Poly) (ls : List Left) (fs : List Fact) (frames : List Frame) (qs : List Question) →
      let after : List Left → List Fact → Tree = λ all gs. real_table (table depth n) n (reals all) gs (λ rows hs. resume leaf frames (filled_all all rows)) in
      denote leaf n (looked_at n b k p (Settling depth looks ps ls fs frames) qs) ≡
      enclosed leaf n qs (elim b [
        | true ↦ leadings looks n ps (Plain Zero ∷ ls) fs after
        | false ↦ ask_known k (leading n p) fs (λ s gs. headed p s ps ls (λ rs ms. leadings looks n rs ms gs after))
      ])
  unfolding enclosed
  looked_at-denotes true k p depth looks ps ls fs frames qs = refl
  looked_at-denotes false (Is Neg) p depth looks ps ls fs frames qs = refl
  looked_at-denotes false (Is Zero) p depth looks ps ls fs frames qs = refl
  looked_at-denotes false (Is Pos) p depth looks ps ls fs frames qs = refl
  looked_at-denotes false Unknown p depth looks ps ls fs frames qs = refl

  pub step_keeps : (s : State) → denote leaf n (step (building leaf) n s) ≡ denote leaf n s
  unfolding enclosed leadings
  step_keeps (Looking (Settling depth zero [] ls fs frames) qs) =
      let all = turned_round ls [] in settled_worth leaf leaf n (denote leaf n) (enclosed leaf n) (λ phase qs. refl) (λ qs. refl) (λ frames rows qs. refl) depth (reals all) all fs frames qs
  step_keeps (Looking (Settling depth zero (p ∷ ps) ls fs frames) qs) = refl
  step_keeps (Looking (Settling depth (suc looks) [] ls fs frames) qs) =
      let all = turned_round ls [] in settled_worth leaf leaf n (denote leaf n) (enclosed leaf n) (λ phase qs. refl) (λ qs. refl) (λ frames rows qs. refl) depth (reals all) all fs frames qs
  step_keeps (Looking (Settling depth (suc looks) (p ∷ ps) ls fs frames) qs) =
      looked_at-denotes (is_zero p) (known n (leading n p) fs) p depth looks ps ls fs frames qs
  step_keeps (Returning t []) = refl
  step_keeps (Returning t (Open p Above phase ∷ qs)) = refl
  step_keeps (Returning t (Open p (At c) phase ∷ qs)) = refl
  step_keeps (Returning t (Open p (Below b c) phase ∷ qs)) = refl

  pub start_denotes : (depth : ℕ) (ps : List Poly) → denote leaf n (start depth ps) ≡ table depth n ps [] (λ rows facts. leaf rows)
  unfolding enclosed resume
  start_denotes depth ps = begun_worth leaf leaf n (denote leaf n) (enclosed leaf n) (λ phase qs. refl) (λ qs. refl) (λ frames rows qs. refl) depth ps [] [] []

  pub finished_denotes : (t : Tree) → denote leaf n (Returning t []) ≡ t
  unfolding enclosed
  finished_denotes t = refl

  pub steps_keep : (k : ℕ) (s : State) → denote leaf n (steps k (building leaf) n s) ≡ denote leaf n s
  unfolding steps
  steps_keep zero s = refl
  steps_keep (suc k) s = steps_keep k (step (building leaf) n s) ∙ step_keeps s
