use Rattle.std.proofs.Common.{◌≡◌, ℕ, ◌+◌, ◌-◌, ◌*◌, List, ◌++◌, ℤ}
use Rattle.grammar.specs.Formulas.{Chain, row_for, disjunction, chain_for, concluded, chained}
use Rattle.grammar.specs.Nesting.{nest}
use Rattle.grammar.specs.Reader.{run, ◌>>=◌}
use Rattle.grammar.specs.Terms.{Claim}
use Rattle.text.specs.declared.row.Row.{Row}
use Rattle.text.specs.declared.row.Row.TheVariants.{Conjunction, Disjunction, Equivalence}
use Rattle.text.specs.Claims.{ClaimShown, chain_words}
use Rattle.text.specs.Row.{first_of, between_of, join_of, operand_of}
use Rattle.text.specs.Sheet.{Behind}
use Rattle.text.proofs.source.Source.+formula_levels.Given as goal

abbrev pub invariant-row_on-loop-turn : goal.invariant-row_on-loop-turn
invariant-row_on-loop-turn l =
    (xs : List ℤ) (p : Claim) → Behind xs l.from → ClaimShown l.initial.draft.sheet xs p l.initial.claim →
    (q : Claim) × (run (row_for 65536 (first_of l.row) (between_of l.row) (join_of l.row) (operand_of l.row l.self.names.now (nest l.self.names.now l.depth)) p) l.self.text.now l.initial.draft.at ≡ run (row_for (65536 - l._turn) (first_of l.row) (between_of l.row) (join_of l.row) (operand_of l.row l.self.names.now (nest l.self.names.now l.depth)) q) l.self.text.now l.draft.at) ×
    ClaimShown l.draft.sheet xs q l.claim

abbrev pub invariant-chained-loop-turn : goal.invariant-chained-loop-turn
invariant-chained-loop-turn l =
    (xs : List ℤ) (p : Claim) → Behind xs l.initial.from → ClaimShown l.initial.draft.sheet xs p l.initial.claim →
    (s : Chain) × (run (chained (disjunction l.self.names.now (nest l.self.names.now l.depth)) p) l.self.text.now l.initial.draft.at ≡ run (chain_for (65536 - l._turn) (disjunction l.self.names.now (nest l.self.names.now l.depth)) s >>= concluded) l.self.text.now l.draft.at) ×
    Behind (xs ++ chain_words s.before) l.from × ClaimShown l.draft.sheet (xs ++ chain_words s.before) s.last l.claim

-- how many calls a row may make before it comes to an atom
abbrev pub height : Row → ℕ
height Conjunction = 0
height Disjunction = 4
height Equivalence = 12

abbrev pub decreases-denied : goal.decreases-denied
decreases-denied l = l.depth * 20 + 0

abbrev pub decreases-enclosed : goal.decreases-enclosed
decreases-enclosed l = l.depth * 20 + 0

abbrev pub decreases-from_word : goal.decreases-from_word
decreases-from_word l = l.depth * 20 + 1

abbrev pub decreases-atom : goal.decreases-atom
decreases-atom l = l.depth * 20 + 2

abbrev pub decreases-operand : goal.decreases-operand
decreases-operand l = l.depth * 20 + (height l.row + 3)

abbrev pub decreases-row_next : goal.decreases-row_next
decreases-row_next l = l.depth * 20 + (height l.row + 4)

abbrev pub decreases-row_on : goal.decreases-row_on
decreases-row_on l = l.depth * 20 + (height l.row + 5)

abbrev pub decreases-row : goal.decreases-row
decreases-row l = l.depth * 20 + (height l.row + 6)

abbrev pub decreases-arrow_next : goal.decreases-arrow_next
decreases-arrow_next l = l.depth * 20 + 11

abbrev pub decreases-chained : goal.decreases-chained
decreases-chained l = l.depth * 20 + 12

abbrev pub decreases-implication : goal.decreases-implication
decreases-implication l = l.depth * 20 + 13
