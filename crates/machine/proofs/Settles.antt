-- What a state is worth, in any sense in which a phase is worth its tree, doesn't change as a table's polynomials are settled and the next table is begun. Assumes nothing.
use mathlib.Core.Path.{◌≡◌, ap, ◌∙◌}
use mathlib.Core.Bool.{Bool, true, false}
use mathlib.Core.List.{List, [], ◌∷◌}
use Prim.Native.Nat.{ℕ, zero, suc}
use lib.ListN.{length, take, get_or}
use Rattle.field.specs.declared.sign.Sign.{Sign}
use Rattle.poly.specs.Poly.{Poly}
use Rattle.sign_table.specs.Tree.{Tree, GivenUp}
use Rattle.sign_table.specs.Facts.{Fact}
use Rattle.sign_table.specs.Leadings.{Left, reals, filled_all}
use Rattle.sign_table.specs.Table.{without, none_left, real_of, real_table, table}
use Rattle.machine.specs.Machine.{Frame, Waiting, Phase, Settling, Question, State, Looking, Returning, resume, begun, divisors, divisible, polys_below, fact_below, divided, highest_place, settled, phase_tree}
use Rattle.machine.proofs.FirstSuffice.{first_suffice}

module _ {X : Type 0} (leaf done : List (List Sign) → Tree) (n : ℕ) (worth : State → X) (around : List Question → Tree → X)
    (looking : (phase : Phase) (qs : List Question) → worth (Looking phase qs) ≡ around qs (phase_tree leaf n phase))
    (given-up : (qs : List Question) → worth (Returning GivenUp qs) ≡ around qs GivenUp)
    (answering : (frames : List Frame) (rows : List (List Sign)) (qs : List Question) → worth (Returning (resume done frames rows) qs) ≡ around qs (resume leaf frames rows)) where
  pub begun_worth : (depth : ℕ) (ps : List Poly) (fs : List Fact) (frames : List Frame) (qs : List Question) →
      worth (begun depth ps fs frames qs) ≡ around qs (table depth n ps fs (λ rows gs. resume leaf frames rows))
  unfolding table
  begun_worth zero ps fs frames qs = given-up qs
  begun_worth (suc depth) ps fs frames qs =
      looking (Settling depth 63 (take 64 ps) [] fs frames) qs
      ∙ ap (around qs) (first_suffice 63 n ps [] fs (λ all gs. real_table (table depth n) n (reals all) gs (λ rows hs. resume leaf frames (filled_all all rows))))

  by_test : (qs : List Question) (b : Bool) (s t : State) (u v : Tree) → worth s ≡ around qs u → worth t ≡ around qs v →
      worth (elim b [ true ↦ s | false ↦ t ]) ≡ around qs (elim b [ true ↦ u | false ↦ v ])
  by_test qs true s t u v h k = h
  by_test qs false s t u v h k = k

  divided_worth : (depth i : ℕ) (l : Left) (ls all : List Left) (fs : List Fact) (frames : List Frame) (qs : List Question) →
      worth (divided n depth i l ls all fs frames qs) ≡ around qs (real_of (table depth n) n i l ls fs (λ rows hs. resume leaf frames (filled_all all rows)))
  unfolding resume
  divided_worth depth i l ls all fs frames qs =
      by_test qs (divisible n l ls) _ _ _ _ (begun_worth depth (polys_below n l ls) (fact_below n l ∷ fs) (Waiting all i (length (divisors n l ls)) ∷ frames) qs) (given-up qs)

  pub settled_worth : (depth : ℕ) (ls all : List Left) (fs : List Fact) (frames : List Frame) (qs : List Question) →
      worth (settled done n depth ls all fs frames qs) ≡ around qs (real_table (table depth n) n ls fs (λ rows hs. resume leaf frames (filled_all all rows)))
  settled_worth depth [] all fs frames qs = answering frames (filled_all all ([] ∷ [])) qs
  settled_worth depth (l ∷ ls) all fs frames qs =
      let i = highest_place l ls in
      divided_worth depth i (get_or (l ∷ ls) i none_left) (without i (l ∷ ls)) all fs frames qs
