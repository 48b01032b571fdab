-- How long the machine still runs, how many questions it still asks, and which polynomials it has asked about when it ends. Assumes nothing.
use Rattle.std.specs.Prelude.{Bool, true, false, cond, List, [], ◌∷◌, ℕ, zero, suc, ◌+◌, ◌*◌}
use Rattle.poly.specs.Poly.{Poly, is_zero}
use Rattle.poly.specs.Leading.{leading}
use Rattle.field.specs.declared.sign.Sign.TheVariants.{Neg, Zero}
use Rattle.sign_table.specs.Tree.{Tree, GivenUp}
use Rattle.sign_table.specs.Facts.{Known, Unknown, Is, known}
use Rattle.decision.specs.Asked.{is_among, asked, questions}
use Rattle.machine.specs.Machine.{Phase, Settling, Branch, Above, At, Below, Question, Open, State, Looking, Returning, assumed, phase_tree}

-- at most so many steps from a phase on
unfoldable pub cost : ℕ → ℕ
cost zero = 1
cost (suc e) = 4 + 3 * cost e

abbrev pub phase_cost : Phase → ℕ
phase_cost (Settling depth looks ps ls fs frames) = cost (64 * depth + looks)

-- at most so many steps once the branch that is being explored is finished
abbrev pub branch_cost : Branch → ℕ → ℕ
branch_cost Above c = 2 * c + 3
branch_cost (At t) c = c + 2
branch_cost (Below t u) c = 1

unfoldable pub questions_cost : List Question → ℕ
questions_cost [] = 0
questions_cost (Open p e phase ∷ qs) = branch_cost e (phase_cost phase) + questions_cost qs

-- at most so many steps from a state on
abbrev pub work : State → ℕ
work (Looking phase qs) = phase_cost phase + questions_cost qs
work (Returning t qs) = questions_cost qs

abbrev pub questions_open : State → List Question
questions_open (Looking phase qs) = qs
questions_open (Returning t qs) = qs

-- how many questions the next step asks, one or none
abbrev pub asked_if : Bool → Known → ℕ
asked_if true k = 0
asked_if false (Is s) = 0
asked_if false Unknown = 1

abbrev pub asks_now : ℕ → State → ℕ
asks_now n (Looking (Settling depth zero ps ls fs frames) qs) = 0
asks_now n (Looking (Settling depth (suc looks) [] ls fs frames) qs) = 0
asks_now n (Looking (Settling depth (suc looks) (p ∷ ps) ls fs frames) qs) = asked_if (is_zero p) (known n (leading n p) fs)
asks_now n (Returning t qs) = 0

-- the tree of what a phase asks, all its answers given up
abbrev pub phase_outline : ℕ → Phase → Tree
phase_outline n phase = phase_tree (λ rows. GivenUp) n phase

-- how many questions the branches ask that are not yet begun
unfoldable pub todo_in : ℕ → List Question → ℕ
todo_in n [] = 0
todo_in n (Open p Above phase ∷ qs) =
    questions (phase_outline n (assumed n p Neg phase)) + (questions (phase_outline n (assumed n p Zero phase)) + todo_in n qs)
todo_in n (Open p (At c) phase ∷ qs) = questions (phase_outline n (assumed n p Neg phase)) + todo_in n qs
todo_in n (Open p (Below b c) phase ∷ qs) = todo_in n qs

-- how many questions are still to be asked; the trees that are finished don't matter
abbrev pub todo : ℕ → State → ℕ
todo n (Looking phase qs) = questions (phase_outline n phase) + todo_in n qs
todo n (Returning t qs) = todo_in n qs

-- the questions of the trees that are finished, and the open ones
abbrev pub branch_questions : Branch → ℕ
branch_questions Above = 0
branch_questions (At c) = questions c
branch_questions (Below b c) = questions b + questions c

unfoldable pub opened_in : List Question → ℕ
opened_in [] = 0
opened_in (Open p e phase ∷ qs) = 1 + (branch_questions e + opened_in qs)

abbrev pub opened : State → ℕ
opened (Looking phase qs) = opened_in qs
opened (Returning t qs) = questions t + opened_in qs

-- p in front of ps, unless it is among them
abbrev pub noted : ℕ → Poly → List Poly → List Poly
noted n p ps = cond (is_among n p ps) ps (p ∷ ps)

-- the polynomials collected after the next step, from those before it: a question's own is collected when its last branch is finished
abbrev pub collected_now : ℕ → State → List Poly → List Poly
collected_now n (Looking phase qs) ps = ps
collected_now n (Returning t []) ps = ps
collected_now n (Returning t (Open p Above phase ∷ qs)) ps = ps
collected_now n (Returning t (Open p (At c) phase ∷ qs)) ps = ps
collected_now n (Returning t (Open p (Below b c) phase ∷ qs)) ps = noted n (leading n p) ps

-- the polynomials collected in the end, from those that are once the branch which is being explored is finished
unfoldable pub collected_in : ℕ → List Question → List Poly → List Poly
collected_in n [] ps = ps
collected_in n (Open p Above phase ∷ qs) ps =
    collected_in n qs (noted n (leading n p) (asked n (phase_outline n (assumed n p Neg phase)) (asked n (phase_outline n (assumed n p Zero phase)) ps)))
collected_in n (Open p (At c) phase ∷ qs) ps = collected_in n qs (noted n (leading n p) (asked n (phase_outline n (assumed n p Neg phase)) ps))
collected_in n (Open p (Below b c) phase ∷ qs) ps = collected_in n qs (noted n (leading n p) ps)

-- the polynomials collected in the end, from those so far; the trees that are finished don't matter
abbrev pub collected_after : ℕ → State → List Poly → List Poly
collected_after n (Looking phase qs) ps = collected_in n qs (asked n (phase_outline n phase) ps)
collected_after n (Returning t qs) ps = collected_in n qs ps
