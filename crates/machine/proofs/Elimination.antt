-- A quantifier eliminated by steps, and when it, or the whole sentence, is given up. Assumes nothing.
use mathlib.Core.Path.{◌≡◌, refl, ap, sym, ◌∙◌}
use mathlib.Core.Bool.{Bool, true, false}
use mathlib.Core.List.{List, [], ◌∷◌}
use Prim.Native.Nat.{ℕ, suc, ◌≤◌, ◌<◌}
use native.Mathlib.Omega.{arith}
use lib.Dec.{T, leb, ltb, leb→le, ltb→lt, le→leb, lt→ltb}
use lib.ListN.{length}
use Rattle.poly.specs.Poly.{Poly}
use Rattle.sign_table.specs.Tree.{Tree, Yes, No, GivenUp, Ask}
use Rattle.sign_table.specs.Leadings.{leadings, turned_round, reals}
use Rattle.sign_table.specs.Table.{table}
use Rattle.decision.specs.Asked.{asked, questions}
use Rattle.decision.specs.RowAnswer.{on_row, some, every}
use Rattle.decision.specs.Eliminate.{over_rows, limited, eliminated}
use Rattle.decision.specs.Decide.{decided, plain}
use Rattle.sign_table.proofs.Along.{on_test}
use Rattle.decision.proofs.AskNothing.{AsksNothing}
use Rattle.decision.proofs.RowAnswer.{nothing-over}
use Rattle.machine.specs.Machine.{State, denote}
use Rattle.machine.specs.Counts.{todo, collected_after}
use Rattle.machine.specs.Theorems.{OnlyAnswers, elimination_start}
use Rattle.machine.proofs.Denotes.{start_denotes}
use Rattle.machine.proofs.Outline.{numbers-ask-nothing}
use Rattle.machine.proofs.Counting.{todo_start, collected_start}
use Rattle.machine.proofs.Collected.{collected_grows, suffix_longer}

questions-nothing : (t : Tree) → AsksNothing t → questions t ≡ 0
unfolding questions
questions-nothing Yes h = refl
questions-nothing No h = refl
questions-nothing GivenUp h = refl
questions-nothing (Ask p a b c) h = absurd h

pub rows_answer : (all : Bool) (v : ℕ) (ps : List Poly) (t : Tree) → OnlyAnswers (over_rows all v ps t)
rows_answer all v ps t rows = questions-nothing (over_rows all v ps t rows) (nothing-over v ps t all rows)

-- the elimination of a quantifier over what is given up
given_up_eliminated : (n : ℕ) (all : Bool) → eliminated n all GivenUp ≡ GivenUp
unfolding eliminated asked table leadings turned_round reals some every on_row questions
given_up_eliminated n true = refl
given_up_eliminated n false = refl

given_up_decided : (qs : List Bool) → decided qs GivenUp ≡ GivenUp
unfolding decided
given_up_decided [] = refl
given_up_decided (q ∷ qs) = ap (decided qs) (given_up_eliminated (length qs) q) ∙ given_up_decided qs

pub given_up_stays : (qs : List Bool) → plain (decided qs GivenUp) ≡ GivenUp
unfolding plain
given_up_stays qs = ap plain (given_up_decided qs)

test_fails : (b : Bool) (t u : Tree) → (T b → ⊥) → ◌≡◌ {A = Tree} (elim b [ true ↦ t | false ↦ u ]) u
test_fails true t u h = absurd (h tt)
test_fails false t u h = refl

test-holds : (b : Bool) (t u : Tree) → T b → ◌≡◌ {A = Tree} (elim b [ true ↦ t | false ↦ u ]) t
test-holds true t u h = refl
test-holds false t u h = absurd h

too_many : (all : Bool) (n : ℕ) (t : Tree) → 12 < length (asked (suc n) t []) → eliminated n all t ≡ GivenUp
unfolding eliminated
too_many all n t h = test_fails (leb (length (asked (suc n) t [])) 12) _ GivenUp (λ b. let le = leb→le (length (asked (suc n) t [])) 12 b in absurd (omega arith))

pub thirteenth_asked : (q : Bool) (qs : List Bool) (t : Tree) → 12 < length (asked (suc (length qs)) t []) → plain (decided (q ∷ qs) t) ≡ GivenUp
unfolding decided
thirteenth_asked q qs t h = ap (λ u. plain (decided qs u)) (too_many q (length qs) t h) ∙ given_up_stays qs

-- the tree of the table that is made for a quantifier
table_tree : ℕ → Bool → Tree → Tree
table_tree n all t = table 40 n (asked (suc n) t []) [] (λ rows facts. over_rows all (suc n) (asked (suc n) t []) t rows)

-- a quantifier is given up, or its table's tree is what is left
eliminated_cases : (P : Tree → Type 0) (n : ℕ) (all : Bool) (t : Tree) → P GivenUp → (questions (table_tree n all t) < 3500 → P (table_tree n all t)) → P (eliminated n all t)
unfolding eliminated table_tree
eliminated_cases P n all t up tree =
    on_test (leb (length (asked (suc n) t [])) 12) (λ b. P (elim b [ true ↦ limited u | false ↦ GivenUp ]))
    (λ _. on_test (ltb (questions u) 3500) (λ b. P (elim b [ true ↦ u | false ↦ GivenUp ])) (λ h. tree (ltb→lt (questions u) 3500 h)) (λ _. up))
    (λ _. up)
  where
    u : Tree
    u = table 40 n (asked (suc n) t []) [] (λ rows facts. over_rows all (suc n) (asked (suc n) t []) t rows)

-- at the start all of the tree's questions are still to be asked
todo_tree : (n : ℕ) (all : Bool) (t : Tree) → todo n (elimination_start n t) ≡ questions (table_tree n all t)
unfolding table_tree
todo_tree n all t = todo_start (over_rows all (suc n) (asked (suc n) t []) t) (rows_answer all (suc n) (asked (suc n) t []) t) 40 n (asked (suc n) t [])

pub many_questions : (n : ℕ) (all : Bool) (t : Tree) → 3500 ≤ todo n (elimination_start n t) → eliminated n all t ≡ GivenUp
many_questions n all t h =
    let e = todo_tree n all t in
    eliminated_cases (λ u. u ≡ GivenUp) n all t refl (λ less. absurd (omega arith))

asked-nothing : (v : ℕ) (t : Tree) (ps : List Poly) → questions t ≡ 0 → asked v t ps ≡ ps
unfolding asked questions
asked-nothing v Yes ps e = refl
asked-nothing v No ps e = refl
asked-nothing v GivenUp ps e = refl
asked-nothing v (Ask p a b c) ps e = absurd (omega arith)

-- where no quantifier is left the table asks nothing
last-asked : (all : Bool) (t : Tree) → asked 0 (table_tree 0 all t) [] ≡ []
unfolding table_tree
last-asked all t =
    asked-nothing 0 (table_tree 0 all t) []
    (numbers-ask-nothing 40 (asked 1 t []) [] (λ rows facts. over_rows all 1 (asked 1 t []) t rows) (λ rows facts. rows_answer all 1 (asked 1 t []) t rows))

-- what was collected is among what the table asks about
collected_asked : (n : ℕ) (all : Bool) (t : Tree) (s : State) (seen : List Poly) → collected_after n s seen ≡ collected_after n (elimination_start n t) [] →
    length seen ≤ length (asked n (table_tree n all t) [])
unfolding table_tree
collected_asked n all t s seen e =
    let c : collected_after n s seen ≡ asked n (table_tree n all t) [] =
    e ∙ collected_start (over_rows all (suc n) (asked (suc n) t []) t) (rows_answer all (suc n) (asked (suc n) t []) t) 40 n (asked (suc n) t []) in
    let l = ap length c in
    let h = suffix_longer (collected_grows n s seen) in
    omega arith

given_up_next : (q : Bool) (qs : List Bool) (t : Tree) → 12 < length (asked (length qs) (table_tree (length qs) q t) []) → plain (decided qs (table_tree (length qs) q t)) ≡ GivenUp
given_up_next q [] t h = let e = ap length (last-asked q t) in absurd (omega arith)
given_up_next q (r ∷ qs) t h = thirteenth_asked r qs (table_tree (suc (length qs)) q t) h

pub thirteenth_collected : (q : Bool) (qs : List Bool) (t : Tree) (s : State) (seen : List Poly) →
    collected_after (length qs) s seen ≡ collected_after (length qs) (elimination_start (length qs) t) [] → 12 < length seen → plain (decided (q ∷ qs) t) ≡ GivenUp
unfolding decided
thirteenth_collected q qs t s seen e h =
    let k = collected_asked (length qs) q t s seen e in
    eliminated_cases (λ u. plain (decided qs u) ≡ GivenUp) (length qs) q t (given_up_stays qs) (λ less. given_up_next q qs t (omega arith))

eliminated_tree : (n : ℕ) (all : Bool) (t : Tree) → length (asked (suc n) t []) ≤ 12 → todo n (elimination_start n t) < 3500 → eliminated n all t ≡ table_tree n all t
unfolding eliminated table_tree
eliminated_tree n all t few h =
    let e = todo_tree n all t in
    let less : questions (table_tree n all t) < 3500 = omega arith in
    test-holds (leb (length (asked (suc n) t [])) 12) (limited (table_tree n all t)) GivenUp (le→leb (length (asked (suc n) t [])) 12 few)
    ∙ test-holds (ltb (questions (table_tree n all t)) 3500) (table_tree n all t) GivenUp (lt→ltb (questions (table_tree n all t)) 3500 less)

pub few_questions : (n : ℕ) (all : Bool) (t : Tree) → length (asked (suc n) t []) ≤ 12 → todo n (elimination_start n t) < 3500 →
    denote (over_rows all (suc n) (asked (suc n) t []) t) n (elimination_start n t) ≡ eliminated n all t
unfolding table_tree
few_questions n all t few h =
    start_denotes (over_rows all (suc n) (asked (suc n) t []) t) n 40 (asked (suc n) t []) ∙ sym (eliminated_tree n all t few h)

pub collected_next : (n : ℕ) (all : Bool) (t : Tree) → length (asked (suc n) t []) ≤ 12 → todo n (elimination_start n t) < 3500 →
    collected_after n (elimination_start n t) [] ≡ asked n (eliminated n all t) []
unfolding table_tree
collected_next n all t few h =
    collected_start (over_rows all (suc n) (asked (suc n) t []) t) (rows_answer all (suc n) (asked (suc n) t []) t) 40 n (asked (suc n) t [])
    ∙ ap (λ u. asked n u []) (sym (eliminated_tree n all t few h))
