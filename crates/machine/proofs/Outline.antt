-- The questions of a table don't depend on what is made of its rows, so long as that asks nothing. Assumes nothing.
use mathlib.Core.Path.{◌≡◌, refl, ap, sym, ◌∙◌}
use mathlib.Core.Bool.{cond}
use mathlib.Core.List.{List, [], ◌∷◌}
use Prim.Native.Nat.{ℕ}
use native.Mathlib.Omega.{arith}
use Rattle.field.specs.declared.sign.Sign.{Sign}
use Rattle.field.specs.declared.sign.Sign.TheVariants.{Neg, Zero, Pos}
use Rattle.field.specs.Sign.{sign_of}
use Rattle.poly.specs.Poly.{Poly, the_number}
use Rattle.sign_table.specs.Tree.{Tree, Yes, No, GivenUp, Ask}
use Rattle.sign_table.specs.Facts.{Fact, Known, Unknown, Is, known, ask_known}
use Rattle.sign_table.specs.Table.{Continuation, table}
use Rattle.decision.specs.Asked.{is_among, asked, questions}
use Rattle.machine.specs.Machine.{Phase, phase_tree}
use Rattle.machine.specs.Counts.{phase_outline}
use Rattle.machine.specs.Theorems.{OnlyAnswers}
use Rattle.machine.proofs.Related.{AskKeeps, related_table, related_phase}

-- the questions alone: every answer is given up
outline : Tree → Tree
outline Yes = GivenUp
outline No = GivenUp
outline GivenUp = GivenUp
outline (Ask p a b c) = Ask p (outline a) (outline b) (outline c)

questions_outline : (t : Tree) → questions (outline t) ≡ questions t
unfolding outline questions
questions_outline Yes = refl
questions_outline No = refl
questions_outline GivenUp = refl
questions_outline (Ask p a b c) =
    let ea = questions_outline a in
    let eb = questions_outline b in
    let ec = questions_outline c in
    omega arith

asked_outline : (v : ℕ) (t : Tree) (ps : List Poly) → asked v (outline t) ps ≡ asked v t ps
unfolding outline asked
asked_outline v Yes ps = refl
asked_outline v No ps = refl
asked_outline v GivenUp ps = refl
asked_outline v (Ask p a b c) ps =
    let e : asked v (outline a) (asked v (outline b) (asked v (outline c) ps)) ≡ asked v a (asked v b (asked v c ps)) =
    asked_outline v a (asked v (outline b) (asked v (outline c) ps)) ∙ ap (asked v a) (asked_outline v b (asked v (outline c) ps) ∙ ap (asked v b) (asked_outline v c ps)) in
    ap (λ qs. cond (is_among v p qs) qs (p ∷ qs)) e

outline_nothing : (t : Tree) → questions t ≡ 0 → outline t ≡ GivenUp
unfolding outline questions
outline_nothing Yes e = refl
outline_nothing No e = refl
outline_nothing GivenUp e = refl
outline_nothing (Ask p a b c) e = absurd (omega arith)

outline_ask : (n : ℕ) → AskKeeps (λ t o. outline t ≡ o) n
unfolding outline
outline_ask n p fs k o h = by_known (known n p fs)
  where
    by_known : (b : Known) → outline (ask_known b p fs k) ≡ ask_known b p fs o
    by_known (Is s) = h s fs
    by_known Unknown = λ i. Ask p (h Neg (record { poly = p; sign = Neg } ∷ fs) i) (h Zero (record { poly = p; sign = Zero } ∷ fs) i) (h Pos (record { poly = p; sign = Pos } ∷ fs) i)

outline_given_up : outline GivenUp ≡ GivenUp
unfolding outline
outline_given_up = refl

module _ (leaf : List (List Sign) → Tree) (answers : OnlyAnswers leaf) where
  outline_leaf : (rows : List (List Sign)) → outline (leaf rows) ≡ GivenUp
  outline_leaf rows = outline_nothing (leaf rows) (answers rows)

  outline_phase : (n : ℕ) (phase : Phase) → outline (phase_tree leaf n phase) ≡ phase_outline n phase
  outline_phase n phase = related_phase (λ t o. outline t ≡ o) n outline_given_up (outline_ask n) leaf (λ rows. GivenUp) outline_leaf phase

  pub questions_phase : (n : ℕ) (phase : Phase) → questions (phase_tree leaf n phase) ≡ questions (phase_outline n phase)
  questions_phase n phase = sym (questions_outline (phase_tree leaf n phase)) ∙ ap questions (outline_phase n phase)

  outline_table : (depth n : ℕ) (ps : List Poly) → outline (table depth n ps [] (λ rows facts. leaf rows)) ≡ table depth n ps [] (λ rows facts. GivenUp)
  outline_table depth n ps =
      related_table (λ t o. outline t ≡ o) n outline_given_up (outline_ask n) depth ps [] (λ rows facts. leaf rows) (λ rows facts. GivenUp) (λ rows facts. outline_leaf rows)

  pub questions-leaves : (depth n : ℕ) (ps : List Poly) → questions (table depth n ps [] (λ rows facts. leaf rows)) ≡ questions (table depth n ps [] (λ rows facts. GivenUp))
  questions-leaves depth n ps = sym (questions_outline (table depth n ps [] (λ rows facts. leaf rows))) ∙ ap questions (outline_table depth n ps)

  pub asked-leaves : (depth n v : ℕ) (ps qs : List Poly) →
      asked v (table depth n ps [] (λ rows facts. leaf rows)) qs ≡ asked v (table depth n ps [] (λ rows facts. GivenUp)) qs
  asked-leaves depth n v ps qs = sym (asked_outline v (table depth n ps [] (λ rows facts. leaf rows)) qs) ∙ ap (λ t. asked v t qs) (outline_table depth n ps)

-- where there is no other variable, all leading coefficients are numbers: nothing is asked
pub numbers-ask-nothing : (depth : ℕ) (ps : List Poly) (fs : List Fact) (k : Continuation) → ((m : List (List Sign)) (gs : List Fact) → questions (k m gs) ≡ 0) → questions (table depth 0 ps fs k) ≡ 0
unfolding questions
numbers-ask-nothing depth ps fs k h =
    related_table (λ t o. questions t ≡ 0) 0 refl (λ p fs k o h. h (sign_of (the_number p)) fs) depth ps fs k k h
