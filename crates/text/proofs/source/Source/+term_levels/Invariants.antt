use Rattle.std.proofs.Common.{◌≡◌, ◌+◌, ◌-◌, ◌*◌, false, List, ◌++◌, ℤ}
use Rattle.field.specs.Sentence.{Term}
use Rattle.grammar.specs.Meaning.{term_words}
use Rattle.grammar.specs.Nesting.{nest}
use Rattle.grammar.specs.Reader.{run}
use Rattle.grammar.specs.Terms.{times_for, times, plus_for, plus}
use Rattle.text.specs.Sheet.{Holds, Behind}
use Rattle.text.proofs.source.Source.+term_levels.Given as goal

abbrev pub invariant-times-loop-turn : goal.invariant-times-loop-turn
invariant-times-loop-turn l =
    (xs : List ℤ) (t : Term) → Behind xs l.from → Holds l.initial.draft.sheet (xs ++ term_words t) →
    (s : Term) × (run (times l.self.names.now (nest l.self.names.now l.depth) t) l.self.text.now l.initial.draft.at ≡
    run (times_for (65536 - l._turn) l.self.names.now (nest l.self.names.now l.depth) s) l.self.text.now l.draft.at) ×
    Holds l.draft.sheet (xs ++ term_words s)

abbrev pub invariant-plus-loop-turn : goal.invariant-plus-loop-turn
invariant-plus-loop-turn l =
    (xs : List ℤ) (t : Term) → Behind xs l.from → Holds l.initial.draft.sheet (xs ++ term_words t) →
    (s : Term) × (run (plus l.self.names.now (nest l.self.names.now l.depth) l.may_arrow t) l.self.text.now l.initial.draft.at ≡
    run (plus_for (65536 - l._turn) l.self.names.now (nest l.self.names.now l.depth) l.may_arrow (record { term = s; arrow = false })) l.self.text.now l.draft.at) ×
    Holds l.draft.sheet (xs ++ term_words s)

abbrev pub decreases-group : goal.decreases-group
decreases-group l = l.depth * 10 + 0

abbrev pub decreases-primary : goal.decreases-primary
decreases-primary l = l.depth * 10 + 1

abbrev pub decreases-factor : goal.decreases-factor
decreases-factor l = l.depth * 10 + 2

abbrev pub decreases-times_next : goal.decreases-times_next
decreases-times_next l = l.depth * 10 + 3

abbrev pub decreases-times : goal.decreases-times
decreases-times l = l.depth * 10 + 4

abbrev pub decreases-product : goal.decreases-product
decreases-product l = l.depth * 10 + 5

abbrev pub decreases-negated : goal.decreases-negated
decreases-negated l = l.depth * 10 + 6

abbrev pub decreases-taken : goal.decreases-taken
decreases-taken l = l.depth * 10 + 6

abbrev pub decreases-added : goal.decreases-added
decreases-added l = l.depth * 10 + 6

abbrev pub decreases-plus_next : goal.decreases-plus_next
decreases-plus_next l = l.depth * 10 + 7

abbrev pub decreases-plus : goal.decreases-plus
decreases-plus l = l.depth * 10 + 8

abbrev pub decreases-leading : goal.decreases-leading
decreases-leading l = l.depth * 10 + 7

abbrev pub decreases-sum : goal.decreases-sum
decreases-sum l = l.depth * 10 + 9
