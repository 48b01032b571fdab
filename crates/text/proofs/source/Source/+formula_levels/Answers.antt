-- Each level of a formula, by the levels that it calls.
use Rattle.std.proofs.Common.{arith, ◌≡◌, min, true, false, not, ◌&&◌, ◌||◌, eqb, [], ◌∷◌, ◌++◌, length, get_or, sym, refl, ap, ◌∙◌, append-nil}
use Rattle.std.proofs.Math.Bool.{not-not}
use Rattle.std.proofs.lemmas.Bool.{eq-eqb, ne_eqb, and_from, and_left, and_right, or_from, or_left, or_right}
use Rattle.field.specs.Sentence.{Not}
use Rattle.grammar.specs.Characters.{is_letter}
use Rattle.grammar.specs.Formulas.{on_claim, denied, from_piece, from_word, enclosed, atom_of, atom, joined, row_next, row_for, implied, arrow_behind, chain_next, chain_for, concluded, chained, implication}
use Rattle.grammar.specs.Meaning.{formula_words}
use Rattle.grammar.specs.Nesting.{nest}
use Rattle.grammar.specs.Reader.{run, Read}
use Rattle.grammar.specs.Terms.{OfTerm, OfClaim}
use Rattle.grammar.proofs.Runs.{goes_on as run_on, stops, while_goes, while_stops, while-ended, while-over}
use Rattle.text.specs.Claims.{chain_words}
use Rattle.text.specs.Row.{first_of, join_of}
use Rattle.text.specs.Sheet.{Holds}
use Rattle.text.proofs.Chains.{chain_refused, chain_claimed, bind_same, implied_words}
use Rattle.text.proofs.Rows.{row_runs}
use Rattle.text.proofs.Sheets.{same_words}
use Rattle.text.proofs.Steps.{read_by, refused_by, one_deeper, chose, passed_over, claims, term_stands, no_claim, regrouped}
use Rattle.text.proofs.source.Source.+formula_levels.Goals as goal
use Rattle.text.proofs.source.Source.+formula_levels.Goals.{row_on-then-claim-via-then-claim, row_on-then-claim-via-else-claim+then-front-first, chained-else-not-claim-via-then-not-claim+else-front-ne45, chained-else-not-claim-via-else-not-claim}

pub operand-returns-in-Conjunction : goal.operand-returns-in-Conjunction
unfolding atom run
operand-returns-in-Conjunction m c xs held =
    rw c.in-Conjunction.is (c.atom.ensures xs held)

pub row_next-returns-in_err-between : goal.row_next-returns-in_err-between
unfolding row_next
row_next-returns-in_err-between m c xs p begins held =
    refused_by _ _ c.from_residual.result _ _ (stops _ _ _ _ _ c.in_err-between.ensures) c.from_residual.ensures.1

pub row_next-returns-in_err-operand : goal.row_next-returns-in_err-operand
unfolding row_next
row_next-returns-in_err-operand m c xs p begins held =
    refused_by _ _ c.from_residual-in_err-operand.result _ _ (run_on _ _ _ _ _ _ c.in_ok-between.ensures ∙ stops _ _ _ _ _ (c.in_err-operand.ensures (xs ++ formula_words p.formula) held)) c.from_residual-in_err-operand.ensures.1

pub row_next-returns-in_err-claim : goal.row_next-returns-in_err-claim
unfolding row_next
row_next-returns-in_err-claim m c xs p begins held =
    let a = c.in_ok-operand.ensures (xs ++ formula_words p.formula) held in
    refused_by _ _ c.from_residual-in_err-claim.result _ _ (run_on _ _ _ _ _ _ c.in_ok-between.ensures ∙ run_on _ _ _ _ _ _ a.1 ∙ stops _ _ _ _ _ (no_claim _ _ _ _ _ _ _ a.2 c.in_err-claim.ensures.value)) c.from_residual-in_err-claim.ensures.1

pub row_next-returns : goal.row_next-returns
unfolding row_next run
row_next-returns m c xs p begins held =
    let a = c.in_ok-operand.ensures (xs ++ formula_words p.formula) held in
    let q = claims _ _ _ _ _ c.args.self.now.text.now c.operand.new.draft.at a.2 c.in_ok-claim.ensures.ok_part in (
      joined (join_of c.args.row) p q.0,
      run_on _ _ _ _ _ _ c.in_ok-between.ensures ∙ run_on _ _ _ _ _ _ a.1 ∙ run_on _ _ _ _ _ _ q.2,
      (
        q.3.0,
        c.join.ensures xs p.formula q.0.formula begins held.counted (regrouped _ xs _ _ q.3.1),
      ),
    )

pub row_on-returns-then-claim : goal.row_on-returns-then-claim
unfolding row_for
row_on-returns-then-claim m c xs p begins shown =
    let i = c.loop-turn.invariant xs p begins shown in
    let ended : (not i.0.arrow && eqb (get_or c.args.self.now.text.now c.loop-turn.draft.at 0) (first_of c.args.row)) ≡ false =
    elim c.then-claim.branch [
      | row_on-then-claim-via-then-claim v ↦ and_left _ _ (ap not (i.2.0 ∙ v.if-claim.true))
      | row_on-then-claim-via-else-claim+then-front-first v ↦ and_right _ _ (ne_eqb _ (first_of c.args.row) (λ e. v.if-front-first.true (v.front.ensures ∙ e ∙ sym v.first.ensures)))
    ] in
    (i.0, i.1 ∙ while-ended _ _ _ _ _ _ ended, i.2)

pub row_on-returns-in_err-claim : goal.row_on-returns-in_err-claim
unfolding row_for
row_on-returns-in_err-claim m c xs p begins shown =
    let i = c.loop-turn.invariant xs p begins shown in
    refused_by _ _ c.from_residual.result _ _ (i.1 ∙ while_stops _ _ _ _ _ _ _ _ c.loop-turn-test.true (and_from _ _ (ap not (i.2.0 ∙ c.if-claim.false)) (eq-eqb _ (first_of c.args.row) (sym c.front.ensures ∙ c.if-front-first.false ∙ c.first.ensures))) (c.in_err-claim.ensures xs i.0 begins i.2.1)) c.from_residual.ensures.1

pub row_on-loop-turn-preserved : goal.row_on-loop-turn-preserved
unfolding row_for
row_on-loop-turn-preserved m c xs p begins shown =
    let i = c.loop-turn.invariant xs p begins shown in
    let n = c.in_ok-claim.ensures xs i.0 begins i.2.1 in
    (n.0, i.1 ∙ while_goes _ _ _ _ _ _ _ n.0 _ c.loop-turn-test.true (and_from _ _ (ap not (i.2.0 ∙ c.if-claim.false)) (eq-eqb _ (first_of c.args.row) (sym c.front.ensures ∙ c.if-front-first.false ∙ c.first.ensures))) n.1, n.2)

pub row_on-returns : goal.row_on-returns
unfolding row_for
row_on-returns m c xs p begins shown =
    let i = c.loop-turn.invariant xs p begins shown in
    (i.0, i.1 ∙ while-over _ _ _ _ _ _ _ c.loop-turn-test.false, i.2)

pub row-returns-in_err-first : goal.row-returns-in_err-first
row-returns-in_err-first m c xs held =
    refused_by _ _ c.from_residual.result _ _ (row_runs c.args.row _ _ _ _ ∙ stops _ _ _ _ _ (c.in_err-first.ensures xs held)) c.from_residual.ensures.1

pub row-returns-in_default : goal.row-returns-in_default
unfolding on_claim run
row-returns-in_default m c xs held =
    let a = c.in_ok-first.ensures xs held in
    let t = term_stands _ _ _ _ a.2 c.in_default.is in
    (OfTerm t.0, row_runs c.args.row _ _ _ _ ∙ run_on _ _ _ _ _ _ (a.1 ∙ ap (λ z. Read z c.operand.new.draft.at) t.1), t.2)

pub row-returns-in_err-last : goal.row-returns-in_err-last
unfolding on_claim
row-returns-in_err-last m c xs held =
    let a = c.in_ok-first.ensures xs held in
    let q = claims _ _ _ _ _ c.args.self.now.text.now c.operand.new.draft.at a.2 c.in-Some.is in
    refused_by _ _ c.from_residual-in_err-last.result _ _ (row_runs c.args.row _ _ _ _ ∙ run_on _ _ _ _ _ _ (a.1 ∙ ap (λ z. Read z c.operand.new.draft.at) q.1) ∙ stops _ _ _ _ _ (c.in_err-last.ensures xs q.0 held.counted q.3)) c.from_residual-in_err-last.ensures.1

pub row-returns : goal.row-returns
unfolding on_claim run
row-returns m c xs held =
    let a = c.in_ok-first.ensures xs held in
    let q = claims _ _ _ _ _ c.args.self.now.text.now c.operand.new.draft.at a.2 c.in-Some.is in
    let n = c.in_ok-last.ensures xs q.0 held.counted q.3 in
    (OfClaim n.0, row_runs c.args.row _ _ _ _ ∙ run_on _ _ _ _ _ _ (a.1 ∙ ap (λ z. Read z c.operand.new.draft.at) q.1) ∙ run_on _ _ _ _ _ _ n.1, n.2)

pub implication-returns-in_err-first : goal.implication-returns-in_err-first
unfolding implication
implication-returns-in_err-first m c xs held =
    refused_by _ _ c.from_residual.result _ _ (stops _ _ _ _ _ (c.in_err-first.ensures xs held)) c.from_residual.ensures.1

pub implication-returns-in_default : goal.implication-returns-in_default
unfolding implication on_claim run
implication-returns-in_default m c xs held =
    let a = c.in_ok-first.ensures xs held in
    let t = term_stands _ _ _ _ a.2 c.in_default.is in
    (OfTerm t.0, run_on _ _ _ _ _ _ (a.1 ∙ ap (λ z. Read z c.row.new.draft.at) t.1), t.2)

pub implication-returns-in_err-chained : goal.implication-returns-in_err-chained
unfolding implication on_claim
implication-returns-in_err-chained m c xs held =
    let a = c.in_ok-first.ensures xs held in
    let q = claims _ _ _ _ _ c.args.self.now.text.now c.row.new.draft.at a.2 c.in-Some.is in
    refused_by _ _ c.from_residual-in_err-chained.result _ _ (run_on _ _ _ _ _ _ (a.1 ∙ ap (λ z. Read z c.row.new.draft.at) q.1) ∙ stops _ _ _ _ _ (c.in_err-chained.ensures xs q.0 held.counted q.3)) c.from_residual-in_err-chained.ensures.1

pub implication-returns : goal.implication-returns
unfolding implication on_claim run
implication-returns m c xs held =
    let a = c.in_ok-first.ensures xs held in
    let q = claims _ _ _ _ _ c.args.self.now.text.now c.row.new.draft.at a.2 c.in-Some.is in
    let n = c.in_ok-chained.ensures xs q.0 held.counted q.3 in
    (OfClaim n.0, run_on _ _ _ _ _ _ (a.1 ∙ ap (λ z. Read z c.row.new.draft.at) q.1) ∙ run_on _ _ _ _ _ _ n.1, n.2)

pub arrow_next-returns-in_err-arrow_behind : goal.arrow_next-returns-in_err-arrow_behind
unfolding chain_next
arrow_next-returns-in_err-arrow_behind m c xs s arrow held =
    chain_refused s _ _ c.from_residual.result _ _ (stops _ _ _ _ _ (ap (λ b. run (arrow_behind b) c.args.self.now.text.now c.args.draft.now.at) arrow ∙ c.in_err-arrow_behind.ensures)) c.from_residual.ensures.1

pub arrow_next-returns-in_err-row : goal.arrow_next-returns-in_err-row
unfolding chain_next
arrow_next-returns-in_err-row m c xs s arrow held =
    chain_refused s _ _ c.from_residual-in_err-row.result _ _ (run_on _ _ _ _ _ _ (ap (λ b. run (arrow_behind b) c.args.self.now.text.now c.args.draft.now.at) arrow ∙ c.in_ok-arrow_behind.ensures) ∙ stops _ _ _ _ _ (c.in_err-row.ensures xs held)) c.from_residual-in_err-row.ensures.1

pub chained-loop-turn-init : goal.chained-loop-turn-init
unfolding chained chain_words
chained-loop-turn-init m c xs p begins shown = (
  record { before = []; last = p },
  refl,
  begins ∙ ap (λ l. min (length l) 1025) (sym (append-nil xs)),
  (
    shown.0,
    same_words _ _ _ (ap (λ l. l ++ formula_words p.formula) (sym (append-nil xs))) shown.1,
  ),
)

pub chained-returns-then-front-ne45 : goal.chained-returns-then-front-ne45
unfolding chain_for concluded run
chained-returns-then-front-ne45 m c xs p begins shown =
    let i = c.loop-turn.invariant xs p begins shown in
    let all : Holds c.loop-turn.draft.sheet (xs ++ formula_words (implied i.0.before i.0.last.formula)) =
    same_words _ _ _ (ap (λ l. xs ++ l) (sym (implied_words i.0.before i.0.last.formula)))
    (regrouped _ xs _ _ i.3.1) in
    (record { formula = implied i.0.before i.0.last.formula; arrow = false }, i.1 ∙ run_on _ concluded _ _ i.0 _ (while-ended _ _ _ _ _ _ (or_from _ _ (i.3.0 ∙ sym (not-not _) ∙ ap not c.if-not-claim.true) (ne_eqb _ 45 (λ e. c.if-front-ne45.true (c.front.ensures ∙ e))))), (refl, all))

pub chained-returns : goal.chained-returns
unfolding chain_for concluded run
chained-returns m c xs p begins shown =
    let i = c.loop-turn.invariant xs p begins shown in
    let all : Holds c.loop-turn.draft.sheet (xs ++ formula_words (implied i.0.before i.0.last.formula)) =
    same_words _ _ _ (ap (λ l. xs ++ l) (sym (implied_words i.0.before i.0.last.formula)))
    (regrouped _ xs _ _ i.3.1) in
    (record { formula = implied i.0.before i.0.last.formula; arrow = false }, i.1 ∙ run_on _ concluded _ _ i.0 _ (while-over _ _ _ _ _ _ _ c.loop-turn-test.false), (refl, all))

pub chained-returns-in_err-claim : goal.chained-returns-in_err-claim
unfolding chain_for chain_words
chained-returns-in_err-claim m c xs p begins shown =
    let i = c.loop-turn.invariant xs p begins shown in
    let goes : (i.0.last.arrow || eqb (get_or c.args.self.now.text.now c.loop-turn.draft.at 0) 45) ≡ true =
    elim c.else-not-claim.branch [
      | chained-else-not-claim-via-then-not-claim+else-front-ne45 v ↦ or_right _ _ (eq-eqb _ 45 (sym v.front.ensures ∙ v.if-front-ne45.false))
      | chained-else-not-claim-via-else-not-claim v ↦ or_left _ _ (i.3.0 ∙ sym (not-not _) ∙ ap not v.if-not-claim.false)
    ] in
    let before = i.0.last.formula ∷ i.0.before in
    let implying : Holds c.imply.new.self (xs ++ chain_words before) =
    regrouped _ xs _ _ (c.imply.ensures (xs ++ chain_words i.0.before) (formula_words i.0.last.formula) i.2 i.3.1) in
    refused_by _ _ c.from_residual.result _ _ (i.1 ∙ stops _ concluded _ _ _ (while_stops _ _ _ _ _ _ _ _ c.loop-turn-test.true goes (c.in_err-claim.ensures (xs ++ chain_words before) i.0 i.3.0 implying))) c.from_residual.ensures.1

pub chained-loop-turn-preserved : goal.chained-loop-turn-preserved
unfolding chain_for chain_words
chained-loop-turn-preserved m c xs p begins shown =
    let i = c.loop-turn.invariant xs p begins shown in
    let goes : (i.0.last.arrow || eqb (get_or c.args.self.now.text.now c.loop-turn.draft.at 0) 45) ≡ true =
    elim c.else-not-claim.branch [
      | chained-else-not-claim-via-then-not-claim+else-front-ne45 v ↦ or_right _ _ (eq-eqb _ 45 (sym v.front.ensures ∙ v.if-front-ne45.false))
      | chained-else-not-claim-via-else-not-claim v ↦ or_left _ _ (i.3.0 ∙ sym (not-not _) ∙ ap not v.if-not-claim.false)
    ] in
    let before = i.0.last.formula ∷ i.0.before in
    let implying : Holds c.imply.new.self (xs ++ chain_words before) =
    regrouped _ xs _ _ (c.imply.ensures (xs ++ chain_words i.0.before) (formula_words i.0.last.formula) i.2 i.3.1) in
    let n = c.in_ok-claim.ensures (xs ++ chain_words before) i.0 i.3.0 implying in (
      record { before = before; last = n.0 },
      i.1 ∙ bind_same _ _ concluded _ _ _ (while_goes _ _ _ _ _ _ _ (record { before = before; last = n.0 }) _ c.loop-turn-test.true goes n.1),
      implying.counted,
      n.2,
    )

pub denied-returns-then-depth-eq0 : goal.denied-returns-then-depth-eq0
unfolding denied run nest
denied-returns-then-depth-eq0 m c xs held =
    run_on _ _ _ _ _ _ c.blanks.ensures ∙ stops _ _ _ _ _ (ap (λ d. run (nest c.args.self.now.names.now d).atom c.args.self.now.text.now c.blanks.new.at) c.if-depth-eq0.true)

pub denied-returns-in_err-atom : goal.denied-returns-in_err-atom
unfolding denied atom run nest
denied-returns-in_err-atom m c xs held =
    refused_by _ _ c.from_residual.result _ _ (run_on _ _ _ _ _ _ c.blanks.ensures ∙ stops _ _ _ _ _ (ap (λ d. run (nest c.args.self.now.names.now d).atom c.args.self.now.text.now c.blanks.new.at) (one_deeper c.if-depth-eq0.false) ∙ c.in_err-atom.ensures xs held)) c.from_residual.ensures.1

pub denied-returns-in_err-claim : goal.denied-returns-in_err-claim
unfolding denied atom run nest
denied-returns-in_err-claim m c xs held =
    let a = c.in_ok-atom.ensures xs held in
    refused_by _ _ c.from_residual-in_err-claim.result _ _ (run_on _ _ _ _ _ _ c.blanks.ensures ∙ run_on _ _ _ _ _ _ (ap (λ d. run (nest c.args.self.now.names.now d).atom c.args.self.now.text.now c.blanks.new.at) (one_deeper c.if-depth-eq0.false) ∙ a.1) ∙ stops _ _ _ _ _ (no_claim _ _ _ _ _ _ _ a.2 c.in_err-claim.ensures.value)) c.from_residual-in_err-claim.ensures.1

pub denied-returns : goal.denied-returns
unfolding denied atom run formula_words nest
denied-returns m c xs held =
    let a = c.in_ok-atom.ensures xs held in
    let q = claims _ _ _ _ _ c.args.self.now.text.now c.atom.new.draft.at a.2 c.in_ok-claim.ensures.ok_part in
    (OfClaim (record { formula = Not q.0.formula; arrow = q.0.arrow }), run_on _ _ _ _ _ _ c.blanks.ensures ∙ run_on _ _ _ _ _ _ (ap (λ d. run (nest c.args.self.now.names.now d).atom c.args.self.now.text.now c.blanks.new.at) (one_deeper c.if-depth-eq0.false) ∙ a.1) ∙ run_on _ _ _ _ _ _ q.2, (q.3.0, c.insert_kind.ensures xs (formula_words q.0.formula) held.counted q.3.1))

pub from_word-returns-then-is_word : goal.from_word-returns-then-is_word
unfolding from_word
from_word-returns-then-is_word m c xs held =
    read_by _ _ _ c.denied.result _ (chose _ _ _ _ _ (sym c.if-is_word.ensures)) (c.denied.ensures xs held)

pub from_word-returns-in_err-named : goal.from_word-returns-in_err-named
unfolding from_word
from_word-returns-in_err-named m c xs held =
    refused_by _ _ c.from_residual.result _ _ (passed_over _ _ _ _ _ (sym c.if-is_word.ensures) ∙ stops _ _ _ _ _ (c.in_err-named.ensures xs held)) c.from_residual.ensures.1

pub from_word-returns : goal.from_word-returns
unfolding from_word
from_word-returns m c xs held =
    let t = c.in_ok-named.ensures xs held in
    read_by _ _ _ c.from_primary.result _ (passed_over _ _ _ _ _ (sym c.if-is_word.ensures) ∙ run_on _ _ _ _ _ _ t.1) (c.from_primary.ensures xs t.0 held.counted t.2)

pub enclosed-returns-in_err-sign : goal.enclosed-returns-in_err-sign
unfolding enclosed
enclosed-returns-in_err-sign m c xs held =
    refused_by _ _ c.from_residual.result _ _ (stops _ _ _ _ _ c.in_err-sign.ensures) c.from_residual.ensures.1

pub enclosed-returns-then-depth-eq0 : goal.enclosed-returns-then-depth-eq0
unfolding enclosed run nest
enclosed-returns-then-depth-eq0 m c xs held =
    run_on _ _ _ _ _ _ c.in_ok-sign.ensures ∙ stops _ _ _ _ _ (ap (λ d. run (nest c.args.self.now.names.now d).formula c.args.self.now.text.now c.sign.new.at) c.if-depth-eq0.true)

pub enclosed-returns-in_err-piece : goal.enclosed-returns-in_err-piece
unfolding enclosed nest
enclosed-returns-in_err-piece m c xs held =
    refused_by _ _ c.from_residual-in_err-piece.result _ _ (run_on _ _ _ _ _ _ c.in_ok-sign.ensures ∙ stops _ _ _ _ _ (ap (λ d. run (nest c.args.self.now.names.now d).formula c.args.self.now.text.now c.sign.new.at) (one_deeper c.if-depth-eq0.false) ∙ c.in_err-piece.ensures xs held)) c.from_residual-in_err-piece.ensures.1

pub enclosed-returns-in_err-sign-2 : goal.enclosed-returns-in_err-sign-2
unfolding enclosed nest
enclosed-returns-in_err-sign-2 m c xs held =
    let a = c.in_ok-piece.ensures xs held in
    refused_by _ _ c.from_residual-in_err-sign-2.result _ _ (run_on _ _ _ _ _ _ c.in_ok-sign.ensures ∙ run_on _ _ _ _ _ _ (ap (λ d. run (nest c.args.self.now.names.now d).formula c.args.self.now.text.now c.sign.new.at) (one_deeper c.if-depth-eq0.false) ∙ a.1) ∙ stops _ _ _ _ _ c.in_err-sign-2.ensures) c.from_residual-in_err-sign-2.ensures.1

pub enclosed-returns-in-None : goal.enclosed-returns-in-None
unfolding enclosed from_piece nest
enclosed-returns-in-None m c xs held =
    let a = c.in_ok-piece.ensures xs held in
    let q = term_stands _ _ _ _ a.2 c.in-None.is in
    read_by _ _ _ c.from_primary.result _ (run_on _ _ _ _ _ _ c.in_ok-sign.ensures ∙ run_on _ _ _ _ _ _ (ap (λ d. run (nest c.args.self.now.names.now d).formula c.args.self.now.text.now c.sign.new.at) (one_deeper c.if-depth-eq0.false) ∙ a.1 ∙ ap (λ z. Read z c.row.new.draft.at) q.1) ∙ run_on _ _ _ _ _ _ c.in_ok-sign-2.ensures) (c.from_primary.ensures xs q.0 held.counted q.2)

pub enclosed-returns-in-Some : goal.enclosed-returns-in-Some
unfolding enclosed from_piece run nest
enclosed-returns-in-Some m c xs held =
    let a = c.in_ok-piece.ensures xs held in
    let q = claims _ _ _ _ _ c.args.self.now.text.now c.row.new.draft.at a.2 c.in-Some.is in
    (OfClaim q.0, run_on _ _ _ _ _ _ c.in_ok-sign.ensures ∙ run_on _ _ _ _ _ _ (ap (λ d. run (nest c.args.self.now.names.now d).formula c.args.self.now.text.now c.sign.new.at) (one_deeper c.if-depth-eq0.false) ∙ a.1 ∙ ap (λ z. Read z c.row.new.draft.at) q.1) ∙ run_on _ _ _ _ _ _ c.in_ok-sign-2.ensures, q.3)

pub arrow_next-returns : goal.arrow_next-returns
unfolding chain_next run
arrow_next-returns m c xs s arrow held =
    let a = c.in_ok-row.ensures xs held in
    chain_claimed s _ c.args.self.now.text.now c.row.new.draft.sheet xs a.0 c.in_ok-row.field-0 c.ok_or.result c.row.new.draft.at (run_on _ _ _ _ _ _ (ap (λ b. run (arrow_behind b) c.args.self.now.text.now c.args.draft.now.at) arrow ∙ c.in_ok-arrow_behind.ensures) ∙ run_on _ _ _ _ _ _ a.1) a.2 c.ok_or.ensures.value

pub atom-returns-in-40 : goal.atom-returns-in-40
unfolding atom_of
atom-returns-in-40 m c xs held =
    read_by _ _ _ c.enclosed.result _ (ap (λ d. run (atom_of c.args.self.now.names.now (nest c.args.self.now.names.now c.args.depth) d) c.args.self.now.text.now c.args.draft.now.at) (sym c.front.ensures ∙ c.in-40.is)) (c.enclosed.ensures xs held)

pub atom-returns-in_err-negated-in-45 : goal.atom-returns-in_err-negated-in-45
unfolding atom_of
atom-returns-in_err-negated-in-45 m c xs held =
    refused_by _ _ c.from_residual.result _ _ (ap (λ d. run (atom_of c.args.self.now.names.now (nest c.args.self.now.names.now c.args.depth) d) c.args.self.now.text.now c.args.draft.now.at) (sym c.front.ensures ∙ c.in-45.is) ∙ stops _ _ _ _ _ (c.in_err-negated-in-45.ensures xs held)) c.from_residual.ensures.1

pub atom-returns-in_ok-negated-in-45 : goal.atom-returns-in_ok-negated-in-45
unfolding atom_of
atom-returns-in_ok-negated-in-45 m c xs held =
    let t = c.in_ok-negated-in-45.ensures xs held in
    read_by _ _ _ c.from_product.result _ (ap (λ d. run (atom_of c.args.self.now.names.now (nest c.args.self.now.names.now c.args.depth) d) c.args.self.now.text.now c.args.draft.now.at) (sym c.front.ensures ∙ c.in-45.is) ∙ run_on _ _ _ _ _ _ t.1) (c.from_product.ensures xs t.0 held.counted t.2)

pub atom-returns-in_err-word-in_default : goal.atom-returns-in_err-word-in_default
unfolding atom_of
atom-returns-in_err-word-in_default m c xs held =
    refused_by _ _ c.from_residual-in_err-word-in_default.result _ _ (chose _ _ _ _ _ (ap is_letter (sym c.front.ensures) ∙ sym c.if-is_letter.ensures) ∙ stops _ _ _ _ _ c.in_err-word-in_default.ensures) c.from_residual-in_err-word-in_default.ensures.1

pub atom-returns-in_ok-word-in_default : goal.atom-returns-in_ok-word-in_default
unfolding atom_of
atom-returns-in_ok-word-in_default m c xs held =
    read_by _ _ _ c.from_word.result _ (chose _ _ _ _ _ (ap is_letter (sym c.front.ensures) ∙ sym c.if-is_letter.ensures) ∙ run_on _ _ _ _ _ _ c.in_ok-word-in_default.ensures) (c.from_word.ensures xs held)

pub atom-returns-in_err-primary-in_default-2 : goal.atom-returns-in_err-primary-in_default-2
unfolding atom_of
atom-returns-in_err-primary-in_default-2 m c xs held =
    refused_by _ _ c.from_residual-in_err-primary-in_default-2.result _ _ (passed_over _ _ _ _ _ (ap is_letter (sym c.front.ensures) ∙ sym c.if-is_letter.ensures) ∙ passed_over _ _ _ _ _ (ne_eqb (get_or c.args.self.now.text.now c.args.draft.now.at 0) 40 (λ e. omega (arith, c.front.ensures, e))) ∙ passed_over _ _ _ _ _ (ne_eqb (get_or c.args.self.now.text.now c.args.draft.now.at 0) 45 (λ e. omega (arith, c.front.ensures, e))) ∙ stops _ _ _ _ _ (c.in_err-primary-in_default-2.ensures xs held)) c.from_residual-in_err-primary-in_default-2.ensures.1

pub atom-returns-in_ok-primary-in_default-2 : goal.atom-returns-in_ok-primary-in_default-2
unfolding atom_of
atom-returns-in_ok-primary-in_default-2 m c xs held =
    let t = c.in_ok-primary-in_default-2.ensures xs held in
    read_by _ _ _ c.from_primary.result _ (passed_over _ _ _ _ _ (ap is_letter (sym c.front.ensures) ∙ sym c.if-is_letter.ensures) ∙ passed_over _ _ _ _ _ (ne_eqb (get_or c.args.self.now.text.now c.args.draft.now.at 0) 40 (λ e. omega (arith, c.front.ensures, e))) ∙ passed_over _ _ _ _ _ (ne_eqb (get_or c.args.self.now.text.now c.args.draft.now.at 0) 45 (λ e. omega (arith, c.front.ensures, e))) ∙ run_on _ _ _ _ _ _ t.1) (c.from_primary.ensures xs t.0 held.counted t.2)
