-- A term is evaluated as the definition reads it: the level below by its kind.
use Rattle.std.proofs.Common.{◌≡◌, ℕ, List, ℤ, ◌+◌, ◌-◌, ◌≤◌, length, sym, refl, ap, ◌∙◌, subst, subst₂, arith, w64, SFits, rules}
use Rattle.std.proofs.lemmas.Int.{to_z-of_z}
use Rattle.poly.specs.Arithmetic.{constant}
use Rattle.field.specs.Sentence.{Var, Num}
use Rattle.poly.specs.Modest.{checked, term_poly}
use Rattle.words.specs.declared.kind.Kind.{Kind}
use Rattle.words.specs.Reading.{Read, then, mapped, meant}
use Rattle.words.specs.Kind.{kind_of}
use Rattle.words.specs.Words.{term_at, term_by, variable_of}
use Rattle.words.proofs.Words.{term_none, term_open, term_of_kind, no_term}
use Rattle.sentence_tree.specs.Placed.{Placed}
use Rattle.sentence_tree.specs.Evaluated.{Evaluates}
use Rattle.sentence_tree.specs.Operations.{combined_term}
use Rattle.sentence_tree.proofs.Joined.{ready, combined-poly}
use Rattle.sentence_tree.proofs.Evaluated.{two-read, evaluated_ok, evaluates_refused, evaluates_read}
use Rattle.sentence_tree.proofs.term.+term.Goals as goal

-- the words of a term, by the kind that was read
of_kind : (depth n : ℕ) (words rest : List ℤ) (k kind : Kind) → (depth ≡ 0 → ⊥) → Read k rest ≡ meant kind_of words → k ≡ kind → term_at depth n words ≡ term_by n (term_at (depth - 1) n) kind rest
of_kind depth n words rest k kind some read is = term_of_kind depth n words rest k some read ∙ ap (λ k. term_by n (term_at (depth - 1) n) k rest) is

pub term-returns-then-depth-eq0-clause-read : goal.term-returns-then-depth-eq0-clause-read
term-returns-then-depth-eq0-clause-read t c = evaluates_refused _ _ _ _ _ _ _ (term_none _ _ _ c.if-depth-eq0.true) _ refl

pub term-returns-in_err-kind-clause-read : goal.term-returns-in_err-kind-clause-read
term-returns-in_err-kind-clause-read t c =
    let n = c.args.variables.count in
    let words = c.args.reader.now.rest.now in
    let refused = term_open c.args.depth n words c.if-depth-eq0.false ∙ ap (λ m. then m (term_by n (term_at (c.args.depth - 1) n))) (sym c.in_err-kind.ensures) in
    evaluates_refused _ _ _ _ _ _ _ refused c.from_residual.result c.from_residual.ensures.0

pub term-returns-in_err-i-in-Variable-clause-read : goal.term-returns-in_err-i-in-Variable-clause-read
term-returns-in_err-i-in-Variable-clause-read t c =
    let n = c.args.variables.count in
    let opened = of_kind c.args.depth n _ _ _ _ c.if-depth-eq0.false c.in_ok-kind.ensures c.in-Variable.is in
    let refused = opened ∙ ap (λ k. mapped Var (meant (variable_of k) c.kind.new.self.rest.now)) (sym c.count.ensures) ∙ ap (mapped Var) (sym c.in_err-i-in-Variable.ensures) in
    evaluates_refused _ _ _ _ _ _ _ refused c.from_residual-in_err-i-in-Variable.result c.from_residual-in_err-i-in-Variable.ensures.0

pub term-returns-in_ok-i-in-Variable-clause-read : goal.term-returns-in_ok-i-in-Variable-clause-read
unfolding term_poly
term-returns-in_ok-i-in-Variable-clause-read t c =
    let n = c.args.variables.count in
    let opened = of_kind c.args.depth n _ _ _ _ c.if-depth-eq0.false c.in_ok-kind.ensures c.in-Variable.is in
    let read = opened ∙ ap (λ k. mapped Var (meant (variable_of k) c.kind.new.self.rest.now)) (sym c.count.ensures) ∙ ap (mapped Var) (sym c.in_ok-i-in-Variable.ensures) in
    evaluates_read _ _ _ _ _ _ _ _ _ read c.place_variable.ensures.placed

pub term-returns-in_err-number-in-Number-clause-read : goal.term-returns-in_err-number-in-Number-clause-read
term-returns-in_err-number-in-Number-clause-read t c =
    let n = c.args.variables.count in
    let opened = of_kind c.args.depth n _ _ _ _ c.if-depth-eq0.false c.in_ok-kind.ensures c.in-Number.is in
    let refused = opened ∙ ap (mapped Num) (sym c.in_err-number-in-Number.ensures) in
    evaluates_refused _ _ _ _ _ _ _ refused c.from_residual-in_err-number-in-Number.result c.from_residual-in_err-number-in-Number.ensures.0

pub term-returns-in_ok-number-in-Number-clause-read : goal.term-returns-in_ok-number-in-Number-clause-read
unfolding term_poly
term-returns-in_ok-number-in-Number-clause-read t c =
    let n = c.args.variables.count in
    let fits : SFits w64 c.in_ok-number-in-Number.number = search rules in
    let opened = of_kind c.args.depth n _ _ _ _ c.if-depth-eq0.false c.in_ok-kind.ensures c.in-Number.is in
    let read = opened ∙ ap (mapped Num) (sym c.in_ok-number-in-Number.ensures) in
    evaluates_read _ _ _ _ _ _ _ _ _ read (subst (λ z. Placed n (checked n (constant n z)) c.place_number.result c.args.arena.now.top c.args.arena.now.cells.now c.place_number.new.arena.top c.place_number.new.arena.cells.now) (to_z-of_z w64 c.in_ok-number-in-Number.number fits) (c.place_number.ensures.placed n c.args.variables.few))

pub term-returns-in-BelowZero : goal.term-returns-in-BelowZero
term-returns-in-BelowZero t c =
    let n = c.args.variables.count in
    let opened = term_of_kind c.args.depth n _ _ _ c.if-depth-eq0.false c.in_ok-kind.ensures in
    record {
      read = evaluates_refused _ _ _ _ _ _ _ (opened ∙ no_term n (term_at (c.args.depth - 1) n) _ c.kind.new.self.rest.now c.in-BelowZero.is) _ refl;
      lent = search rules;
    }

pub term-returns-in-Sum-clause-read : goal.term-returns-in-Sum-clause-read
term-returns-in-Sum-clause-read t c =
    let n = c.args.variables.count in
    let rest = c.kind.new.self.rest.now in
    let arena = c.combine.new.arena in
    let opened = of_kind c.args.depth n _ _ _ _ c.if-depth-eq0.false c.in_ok-kind.ensures c.in-Sum.is in
    subst (λ m. Evaluates n m c.combine.result c.combine.new.reader.rest.now c.args.arena.now.top c.args.arena.now.cells.now arena.top arena.cells.now) (sym opened) c.combine.ensures.read

pub term-returns-in-Product-clause-read : goal.term-returns-in-Product-clause-read
term-returns-in-Product-clause-read t c =
    let n = c.args.variables.count in
    let rest = c.kind.new.self.rest.now in
    let arena = c.combine-in-Product.new.arena in
    let opened = of_kind c.args.depth n _ _ _ _ c.if-depth-eq0.false c.in_ok-kind.ensures c.in-Product.is in
    subst (λ m. Evaluates n m c.combine-in-Product.result c.combine-in-Product.new.reader.rest.now c.args.arena.now.top c.args.arena.now.cells.now arena.top arena.cells.now) (sym opened) c.combine-in-Product.ensures.read

pub combine-place_combined-requires : goal.combine-place_combined-requires
combine-place_combined-requires t c =
    let n = c.args.variables.count in
    let go = term_at c.args.depth n in
    let arena = c.args.arena.now in
    let mark = c.top-mark.result in
    let middle = c.term.new.arena in
    let after = c.term-2.new.arena in
    let left = c.in_ok-left.left in
    let right = c.in_ok-right.right in
    let a = evaluated_ok n (go c.args.reader.now.rest.now) _ arena.top arena.cells.now middle.top middle.cells.now left c.in_ok-left.ensures.read in
    let b = evaluated_ok n (go c.term.new.reader.rest.now) _ middle.top middle.cells.now after.top after.cells.now right c.in_ok-right.ensures.read in
    let lies : Placed n (term_poly n a.0) left mark arena.cells.now middle.top middle.cells.now = subst (λ m. Placed n (term_poly n a.0) left m arena.cells.now middle.top middle.cells.now) (sym c.top-mark.ensures) a.2 in
    let room : mark + 64 ≤ length arena.cells.now = omega (arith, c.requires.room, c.top-mark.ensures) in
    record {
      ready = ready n (term_poly n a.0) (term_poly n b.0) (record { mark = mark; left = left; right = right }) arena.cells.now middle.top middle.cells.now after.top after.cells.now room lies b.2;
    }

pub combine-returns-clause-read : goal.combine-returns-clause-read
combine-returns-clause-read t c =
    let n = c.args.variables.count in
    let o = c.args.operation in
    let words = c.args.reader.now.rest.now in
    let go = term_at c.args.depth n in
    let arena = c.args.arena.now in
    let middle = c.term.new.arena in
    let after = c.term-2.new.arena in
    let placed = c.place_combined.new.arena in
    let first = c.term.new.reader.rest.now in
    let second = c.term-2.new.reader.rest.now in
    let left = c.in_ok-left.left in
    let a = evaluated_ok n (go words) first arena.top arena.cells.now middle.top middle.cells.now left c.in_ok-left.ensures.read in
    let b = evaluated_ok n (go first) second middle.top middle.cells.now after.top after.cells.now c.in_ok-right.right c.in_ok-right.ensures.read in
    let lies : Placed n (term_poly n a.0) left c.top-mark.result arena.cells.now middle.top middle.cells.now =
    subst (λ m. Placed n (term_poly n a.0) left m arena.cells.now middle.top middle.cells.now) (sym c.top-mark.ensures) a.2 in
    let made = c.place_combined.ensures.placed n (term_poly n a.0) (term_poly n b.0) arena.cells.now middle.top middle.cells.now c.args.variables.few lies b.2 in
    evaluates_read _ _ _ _ _ _ _ (combined_term o a.0 b.0) _ (two-read (combined_term o) go words first second a.0 b.0 a.1 b.1)
    (subst₂ (λ p m. Placed n p c.place_combined.result m arena.cells.now placed.top placed.cells.now) (sym (combined-poly o n a.0 b.0)) c.top-mark.ensures made)
