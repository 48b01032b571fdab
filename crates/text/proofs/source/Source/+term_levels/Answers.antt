-- Each level of a term, by the levels that it calls.
use Rattle.std.proofs.Common.{◌≡◌, ◌+◌, ◌-◌, true, false, not, ◌&&◌, eqb, [], ◌∷◌, ◌++◌, get_or, pos, sym, refl, ap, ◌∙◌, w64}
use Rattle.std.proofs.lemmas.Int.{to_z-of_z}
use Rattle.std.proofs.lemmas.Bool.{eq-eqb, ne_eqb, and_from, and_left, and_right}
use Rattle.field.specs.Sentence.{Num, Sum, Product}
use Rattle.grammar.specs.Characters.{is_letter, is_digit}
use Rattle.grammar.specs.Meaning.{negative, difference, term_words}
use Rattle.grammar.specs.Nesting.{nest}
use Rattle.grammar.specs.Reader.{run, Look}
use Rattle.grammar.specs.Terms.{grouped, primary_of, factor, times_next, times_for, product, taken, taken_of, added, summand_of, plus_next, is_summand_sign, plus_for, plus, negated, leading_of, sum}
use Rattle.grammar.specs.Tokens.{sign}
use Rattle.grammar.proofs.Runs.{goes_on, stops, while_goes, while_stops, while-ended, while-over}
use Rattle.text.proofs.Sheets.{same_words}
use Rattle.text.proofs.Steps.{read_by, refused_by, one_deeper, chose, passed_over, closes, regrouped}
use Rattle.text.proofs.source.Source.+term_levels.Goals as goal
use Rattle.text.proofs.source.Source.+term_levels.Goals.{plus_next-else-may_arrow-via-then-may_arrow+else-front-eq62, plus_next-else-may_arrow-via-else-may_arrow}

pub added-returns-in_err-sign : goal.added-returns-in_err-sign
unfolding added
added-returns-in_err-sign m c xs t begins held =
    refused_by _ _ c.from_residual.result _ _ (stops _ _ _ _ _ c.in_err-sign.ensures) c.from_residual.ensures.1

pub added-returns-in_err-product : goal.added-returns-in_err-product
unfolding added
added-returns-in_err-product m c xs t begins held =
    refused_by _ _ c.from_residual-in_err-product.result _ _ (goes_on _ _ _ _ _ _ c.in_ok-sign.ensures ∙ stops _ _ _ _ _ (c.in_err-product.ensures (xs ++ term_words t) held)) c.from_residual-in_err-product.ensures.1

pub added-returns : goal.added-returns
unfolding added run term_words
added-returns m c xs t begins held =
    let p = c.in_ok-product.ensures (xs ++ term_words t) held in (
      record { term = Sum t p.0; arrow = false },
      goes_on _ _ _ _ _ _ c.in_ok-sign.ensures ∙ goes_on _ _ _ _ _ _ p.1,
      (refl, c.insert_kind.ensures xs (term_words t ++ term_words p.0) begins (regrouped _ xs _ _ p.2)),
    )

pub factor-returns-in_err-primary : goal.factor-returns-in_err-primary
unfolding factor run
factor-returns-in_err-primary m c xs held =
    refused_by _ _ c.from_residual.result _ _ (stops _ _ _ _ _ (c.in_err-primary.ensures xs held)) c.from_residual.ensures.1

pub factor-returns : goal.factor-returns
unfolding factor run
factor-returns m c xs held =
    let p = c.in_ok-primary.ensures xs held in
    read_by _ _ _ c.raised.result _ (goes_on _ _ _ _ _ _ p.1) (c.raised.ensures xs p.0 held.counted p.2)

pub group-returns-in_err-sign : goal.group-returns-in_err-sign
unfolding grouped
group-returns-in_err-sign m c xs held =
    refused_by _ _ c.from_residual.result _ _ (stops _ _ _ _ _ c.in_err-sign.ensures) c.from_residual.ensures.1

pub group-returns-then-depth-eq0 : goal.group-returns-then-depth-eq0
unfolding grouped run nest
group-returns-then-depth-eq0 m c xs held =
    goes_on _ _ _ _ _ _ c.in_ok-sign.ensures ∙ stops _ _ _ _ _ (ap (λ d. run (nest c.args.self.now.names.now d).sum c.args.self.now.text.now c.sign.new.at) c.if-depth-eq0.true)

pub group-returns-in_err-sum : goal.group-returns-in_err-sum
unfolding grouped nest
group-returns-in_err-sum m c xs held =
    refused_by _ _ c.from_residual-in_err-sum.result _ _ (goes_on _ _ _ _ _ _ c.in_ok-sign.ensures ∙ stops _ _ _ _ _ (ap (λ d. run (nest c.args.self.now.names.now d).sum c.args.self.now.text.now c.sign.new.at) (one_deeper c.if-depth-eq0.false) ∙ stops _ _ _ _ _ (c.in_err-sum.ensures xs held))) c.from_residual-in_err-sum.ensures.1

pub group-returns : goal.group-returns
unfolding grouped run nest
group-returns m c xs held =
    let p = c.in_ok-sum.ensures xs held in
    read_by _ _ _ c.sign-2.result _ (goes_on _ _ _ _ _ _ c.in_ok-sign.ensures ∙ goes_on _ _ _ _ _ _ (ap (λ d. run (nest c.args.self.now.names.now d).sum c.args.self.now.text.now c.sign.new.at) (one_deeper c.if-depth-eq0.false) ∙ goes_on _ _ _ _ _ _ p.1))
    (closes _ (sign (41 ∷ [])) p.0.term _ _ c.sign-2.result _ c.sign-2.ensures (λ _. p.2.1))

pub leading-returns-then-front-eq45 : goal.leading-returns-then-front-eq45
unfolding leading_of
leading-returns-then-front-eq45 m c xs held =
    read_by _ _ _ c.negated.result _ (chose _ _ _ _ _ (eq-eqb _ 45 (sym c.front.ensures ∙ c.if-front-eq45.true))) (c.negated.ensures xs held)

pub leading-returns-else-front-eq45 : goal.leading-returns-else-front-eq45
unfolding leading_of
leading-returns-else-front-eq45 m c xs held =
    read_by _ _ _ c.product.result _ (passed_over _ _ _ _ _ (ne_eqb _ 45 (λ e. c.if-front-eq45.false (c.front.ensures ∙ e)))) (c.product.ensures xs held)

pub negated-returns-in_err-sign : goal.negated-returns-in_err-sign
unfolding negated
negated-returns-in_err-sign m c xs held =
    refused_by _ _ c.from_residual.result _ _ (stops _ _ _ _ _ c.in_err-sign.ensures) c.from_residual.ensures.1

pub negated-returns-then-depth-eq0 : goal.negated-returns-then-depth-eq0
unfolding negated run nest
negated-returns-then-depth-eq0 m c xs held =
    goes_on _ _ _ _ _ _ c.in_ok-sign.ensures ∙ stops _ _ _ _ _ (ap (λ d. run (nest c.args.self.now.names.now d).product c.args.self.now.text.now c.sign.new.at) c.if-depth-eq0.true)

pub negated-returns-in_err-product : goal.negated-returns-in_err-product
unfolding negated nest
negated-returns-in_err-product m c xs held =
    refused_by _ _ c.from_residual-in_err-product.result _ _ (goes_on _ _ _ _ _ _ c.in_ok-sign.ensures ∙ stops _ _ _ _ _ (ap (λ d. run (nest c.args.self.now.names.now d).product c.args.self.now.text.now c.sign.new.at) (one_deeper c.if-depth-eq0.false) ∙ c.in_err-product.ensures xs held)) c.from_residual-in_err-product.ensures.1

pub negated-returns : goal.negated-returns
unfolding negated run term_words nest
negated-returns m c xs held =
    let p = c.in_ok-product.ensures xs held in (
      negative p.0,
      goes_on _ _ _ _ _ _ c.in_ok-sign.ensures ∙ goes_on _ _ _ _ _ _ (ap (λ d. run (nest c.args.self.now.names.now d).product c.args.self.now.text.now c.sign.new.at) (one_deeper c.if-depth-eq0.false) ∙ p.1),
      c.negate.ensures xs (term_words p.0) held.counted p.2,
    )

pub plus-loop-turn-init : goal.plus-loop-turn-init
unfolding plus
plus-loop-turn-init m c xs t begins held =
    (t, refl, held)

pub plus-returns-then-not-begins_summand : goal.plus-returns-then-not-begins_summand
unfolding plus_for
plus-returns-then-not-begins_summand m c xs t begins held =
    let i = c.loop-turn.invariant xs t begins held in (
      record { term = i.0; arrow = false },
      i.1 ∙ while-ended _ _ _ _ _ _
          (ap is_summand_sign (sym c.front.ensures) ∙ sym c.if-not-begins_summand.ensures),
      (refl, i.2),
    )

pub plus-returns-in_err-plus_next : goal.plus-returns-in_err-plus_next
unfolding plus_for plus_next run
plus-returns-in_err-plus_next m c xs t begins held =
    let i = c.loop-turn.invariant xs t begins held in
    let sign-here = ap is_summand_sign (sym c.front.ensures) ∙ sym c.if-not-begins_summand.ensures in
    refused_by _ _ c.from_residual.result _ _ (i.1 ∙ while_stops _ _ _ _ _ _ _ _ c.loop-turn-test.true sign-here (c.in_err-plus_next.ensures xs i.0 begins i.2)) c.from_residual.ensures.1

pub plus-returns-then-branch : goal.plus-returns-then-branch
unfolding plus_for plus_next run
plus-returns-then-branch m c xs t begins held =
    let i = c.loop-turn.invariant xs t begins held in
    let sign-here = ap is_summand_sign (sym c.front.ensures) ∙ sym c.if-not-begins_summand.ensures in
    let n = c.in_ok-plus_next.ensures xs i.0 begins i.2 in (
      n.0,
      i.1 ∙ while_goes _ _ _ _ _ _ _ n.0 _ c.loop-turn-test.true sign-here n.1 ∙
          while-ended _ _ _ _ _ _ (and_left _ _ (ap not (n.2.0 ∙ c.if-branch.true))),
      (n.2.0 ∙ c.if-branch.true, n.2.1),
    )

pub plus-loop-turn-preserved : goal.plus-loop-turn-preserved
unfolding plus_for plus_next run
plus-loop-turn-preserved m c xs t begins held =
    let i = c.loop-turn.invariant xs t begins held in
    let sign-here = ap is_summand_sign (sym c.front.ensures) ∙ sym c.if-not-begins_summand.ensures in
    let n = c.in_ok-plus_next.ensures xs i.0 begins i.2 in (
      n.0.term,
      i.1 ∙ while_goes _ _ _ _ _ _ _ n.0 _ c.loop-turn-test.true sign-here n.1 ∙
          ap (λ b. run (plus_for (65536 - (c.loop-turn._turn + 1)) c.args.self.now.names.now (nest c.args.self.now.names.now c.args.depth) c.args.may_arrow (record { term = n.0.term; arrow = b })) c.args.self.now.text.now c.plus_next.new.draft.at) (n.2.0 ∙ c.if-branch.false),
      n.2.1,
    )

pub plus-returns : goal.plus-returns
unfolding plus_for
plus-returns m c xs t begins held =
    let i = c.loop-turn.invariant xs t begins held in
    (record { term = i.0; arrow = false }, i.1 ∙ while-over _ _ _ _ _ _ _ c.loop-turn-test.false, (refl, i.2))

pub plus_next-returns-in_err-added : goal.plus_next-returns-in_err-added
unfolding summand_of
plus_next-returns-in_err-added m c xs t begins held =
    refused_by _ _ c.from_residual.result _ _ (chose _ _ _ _ _ (eq-eqb _ 43 (sym c.front.ensures ∙ c.if-front-eq43.true)) ∙ c.in_err-added.ensures xs t begins held) c.from_residual.ensures.1

pub plus_next-returns-then-front-eq43 : goal.plus_next-returns-then-front-eq43
unfolding summand_of
plus_next-returns-then-front-eq43 m c xs t begins held =
    let s = c.in_ok-added.ensures xs t begins held in
    (s.0, chose _ _ _ _ _ (eq-eqb _ 43 (sym c.front.ensures ∙ c.if-front-eq43.true)) ∙ s.1, s.2)

pub plus_next-returns-in_err-sign : goal.plus_next-returns-in_err-sign
unfolding summand_of taken_of run
plus_next-returns-in_err-sign m c xs t begins held =
    refused_by _ _ c.from_residual-in_err-sign.result _ _ (passed_over _ _ _ _ _ (ne_eqb _ 43 (λ e. c.if-front-eq43.false (c.front.ensures ∙ e))) ∙ ap (λ n. run (Look (taken_of c.args.self.now.names.now (nest c.args.self.now.names.now c.args.depth) c.args.may_arrow t)) c.args.self.now.text.now n) (sym c.pass.ensures) ∙ chose _ _ _ _ _ (and_from _ _ c.if-may_arrow.true (eq-eqb _ 62 (sym c.front-then-may_arrow.ensures ∙ c.if-front-eq62.true))) ∙ stops _ _ _ _ _ c.in_err-sign.ensures) c.from_residual-in_err-sign.ensures.1

pub plus_next-returns-then-front-eq62 : goal.plus_next-returns-then-front-eq62
unfolding summand_of taken_of run
plus_next-returns-then-front-eq62 m c xs t begins held =
    (record { term = t; arrow = true }, passed_over _ _ _ _ _ (ne_eqb _ 43 (λ e. c.if-front-eq43.false (c.front.ensures ∙ e))) ∙ ap (λ n. run (Look (taken_of c.args.self.now.names.now (nest c.args.self.now.names.now c.args.depth) c.args.may_arrow t)) c.args.self.now.text.now n) (sym c.pass.ensures) ∙ chose _ _ _ _ _ (and_from _ _ c.if-may_arrow.true (eq-eqb _ 62 (sym c.front-then-may_arrow.ensures ∙ c.if-front-eq62.true))) ∙ goes_on _ _ _ _ _ _ c.in_ok-sign.ensures, (refl, held))

pub plus_next-returns-in_err-taken : goal.plus_next-returns-in_err-taken
unfolding summand_of taken_of run
plus_next-returns-in_err-taken m c xs t begins held =
    let no-arrow : (c.args.may_arrow && eqb (get_or c.args.self.now.text.now c.pass.new.at 0) 62) ≡ false =
    elim c.else-may_arrow.branch [
      | plus_next-else-may_arrow-via-then-may_arrow+else-front-eq62 v ↦ and_right _ _ (ne_eqb _ 62 (λ e. v.if-front-eq62.false (v.front-then-may_arrow.ensures ∙ e)))
      | plus_next-else-may_arrow-via-else-may_arrow v ↦ and_left _ _ v.if-may_arrow.false
    ] in
    refused_by _ _ c.from_residual-in_err-taken.result _ _ (passed_over _ _ _ _ _ (ne_eqb _ 43 (λ e. c.if-front-eq43.false (c.front.ensures ∙ e))) ∙ ap (λ n. run (Look (taken_of c.args.self.now.names.now (nest c.args.self.now.names.now c.args.depth) c.args.may_arrow t)) c.args.self.now.text.now n) (sym c.pass.ensures) ∙ passed_over _ _ _ _ _ no-arrow ∙ c.in_err-taken.ensures xs t begins held) c.from_residual-in_err-taken.ensures.1

pub plus_next-returns : goal.plus_next-returns
unfolding summand_of taken_of run
plus_next-returns m c xs t begins held =
    let no-arrow : (c.args.may_arrow && eqb (get_or c.args.self.now.text.now c.pass.new.at 0) 62) ≡ false =
    elim c.else-may_arrow.branch [
      | plus_next-else-may_arrow-via-then-may_arrow+else-front-eq62 v ↦ and_right _ _ (ne_eqb _ 62 (λ e. v.if-front-eq62.false (v.front-then-may_arrow.ensures ∙ e)))
      | plus_next-else-may_arrow-via-else-may_arrow v ↦ and_left _ _ v.if-may_arrow.false
    ] in
    let s = c.in_ok-taken.ensures xs t begins held in
    (s.0, passed_over _ _ _ _ _ (ne_eqb _ 43 (λ e. c.if-front-eq43.false (c.front.ensures ∙ e))) ∙ ap (λ n. run (Look (taken_of c.args.self.now.names.now (nest c.args.self.now.names.now c.args.depth) c.args.may_arrow t)) c.args.self.now.text.now n) (sym c.pass.ensures) ∙ passed_over _ _ _ _ _ no-arrow ∙ s.1, s.2)

pub primary-returns-in_err-word : goal.primary-returns-in_err-word
unfolding primary_of
primary-returns-in_err-word m c xs held =
    refused_by _ _ c.from_residual.result _ _ (chose _ _ _ _ _ (ap is_letter (sym c.front-c.ensures) ∙ sym c.if-is_letter.ensures) ∙ stops _ _ _ _ _ c.in_err-word.ensures) c.from_residual.ensures.1

pub primary-returns-in_ok-word : goal.primary-returns-in_ok-word
unfolding primary_of
primary-returns-in_ok-word m c xs held =
    read_by _ _ _ c.named.result _ (chose _ _ _ _ _ (ap is_letter (sym c.front-c.ensures) ∙ sym c.if-is_letter.ensures) ∙ goes_on _ _ _ _ _ _ c.in_ok-word.ensures) (c.named.ensures xs held)

pub primary-returns-then-is_digit : goal.primary-returns-then-is_digit
unfolding primary_of run term_words
primary-returns-then-is_digit m c xs held = (
  Num (pos c.number-number.result),
  passed_over _ _ _ _ _ (ap is_letter (sym c.front-c.ensures) ∙ sym c.if-is_letter.ensures) ∙ chose _ _ _ _ _ (ap is_digit (sym c.front-c.ensures) ∙ sym c.if-is_digit.ensures) ∙ goes_on _ _ _ _ _ _ c.number-number.ensures,
  regrouped _ xs _ _
      (same_words _ _ _ (ap (λ u. (xs ++ (pos 7 ∷ [])) ++ (u ∷ [])) (to_z-of_z w64 c.from.result (record { sfits = c.from.type_inv }) ∙ c.from.ensures)) (c.put.ensures (xs ++ (pos 7 ∷ [])) (c.put_kind.ensures xs held))),
)

pub primary-returns-else-is_digit : goal.primary-returns-else-is_digit
unfolding primary_of
primary-returns-else-is_digit m c xs held =
    read_by _ _ _ c.group.result _ (passed_over _ _ _ _ _ (ap is_letter (sym c.front-c.ensures) ∙ sym c.if-is_letter.ensures) ∙ passed_over _ _ _ _ _ (ap is_digit (sym c.front-c.ensures) ∙ sym c.if-is_digit.ensures)) (c.group.ensures xs held)

pub product-returns-in_err-factor : goal.product-returns-in_err-factor
unfolding product
product-returns-in_err-factor m c xs held =
    refused_by _ _ c.from_residual.result _ _ (stops _ _ _ _ _ (c.in_err-factor.ensures xs held)) c.from_residual.ensures.1

pub product-returns : goal.product-returns
unfolding product
product-returns m c xs held =
    let p = c.in_ok-factor.ensures xs held in
    read_by _ _ _ c.times.result _ (goes_on _ _ _ _ _ _ p.1) (c.times.ensures xs p.0 held.counted p.2)

pub sum-returns-in_err-leading : goal.sum-returns-in_err-leading
unfolding sum run
sum-returns-in_err-leading m c xs held =
    refused_by _ _ c.from_residual.result _ _ (stops (Look (leading_of c.args.self.now.names.now (nest c.args.self.now.names.now c.args.depth))) _ _ _ _ (c.in_err-leading.ensures xs held)) c.from_residual.ensures.1

pub sum-returns : goal.sum-returns
unfolding sum run
sum-returns m c xs held =
    let p = c.in_ok-leading.ensures xs held in
    read_by _ _ _ c.plus.result _ (goes_on (Look (leading_of c.args.self.now.names.now (nest c.args.self.now.names.now c.args.depth))) _ _ _ _ _ p.1) (c.plus.ensures xs p.0 held.counted p.2)

pub taken-returns-in_err-product : goal.taken-returns-in_err-product
unfolding taken
taken-returns-in_err-product m c xs t begins held =
    refused_by _ _ c.from_residual.result _ _ (goes_on _ _ _ _ _ _ c.blanks.ensures ∙ stops _ _ _ _ _ (c.in_err-product.ensures (xs ++ term_words t) held)) c.from_residual.ensures.1

pub taken-returns : goal.taken-returns
unfolding taken run term_words
taken-returns m c xs t begins held =
    let p = c.in_ok-product.ensures (xs ++ term_words t) held in (
      record { term = difference t p.0; arrow = false },
      goes_on _ _ _ _ _ _ c.blanks.ensures ∙ goes_on _ _ _ _ _ _ p.1,
      (
        refl,
        c.insert_kind.ensures xs (term_words t ++ term_words (negative p.0)) begins
            (regrouped _ xs _ _ (c.negate.ensures (xs ++ term_words t) (term_words p.0) held.counted p.2)),
      ),
    )

pub times-returns-then-front-ne42 : goal.times-returns-then-front-ne42
unfolding times_for
times-returns-then-front-ne42 m c xs t begins held =
    let i = c.loop-turn.invariant xs t begins held in
    (i.0, i.1 ∙ while-ended _ _ _ _ _ _ (ne_eqb _ 42 (λ e. c.if-front-ne42.true (c.front.ensures ∙ e))), i.2)

pub times-returns-in_err-times_next : goal.times-returns-in_err-times_next
unfolding times_for
times-returns-in_err-times_next m c xs t begins held =
    let i = c.loop-turn.invariant xs t begins held in
    refused_by _ _ c.from_residual.result _ _ (i.1 ∙ while_stops _ _ _ _ _ _ _ _ c.loop-turn-test.true (eq-eqb _ 42 (sym c.front.ensures ∙ c.if-front-ne42.false)) (c.in_err-times_next.ensures xs i.0 begins i.2)) c.from_residual.ensures.1

pub times-loop-turn-preserved : goal.times-loop-turn-preserved
unfolding times_for
times-loop-turn-preserved m c xs t begins held =
    let i = c.loop-turn.invariant xs t begins held in
    let n = c.in_ok-times_next.ensures xs i.0 begins i.2 in
    (n.0, i.1 ∙ while_goes _ _ _ _ _ _ _ n.0 _ c.loop-turn-test.true (eq-eqb _ 42 (sym c.front.ensures ∙ c.if-front-ne42.false)) n.1, n.2)

pub times-returns : goal.times-returns
unfolding times_for
times-returns m c xs t begins held =
    let i = c.loop-turn.invariant xs t begins held in
    (i.0, i.1 ∙ while-over _ _ _ _ _ _ _ c.loop-turn-test.false, i.2)

pub times_next-returns-in_err-sign : goal.times_next-returns-in_err-sign
unfolding times_next
times_next-returns-in_err-sign m c xs t begins held =
    refused_by _ _ c.from_residual.result _ _ (stops _ _ _ _ _ c.in_err-sign.ensures) c.from_residual.ensures.1

pub times_next-returns-in_err-factor : goal.times_next-returns-in_err-factor
unfolding times_next
times_next-returns-in_err-factor m c xs t begins held =
    refused_by _ _ c.from_residual-in_err-factor.result _ _ (goes_on _ _ _ _ _ _ c.in_ok-sign.ensures ∙ stops _ _ _ _ _ (c.in_err-factor.ensures (xs ++ term_words t) held)) c.from_residual-in_err-factor.ensures.1

pub times_next-returns : goal.times_next-returns
unfolding times_next run term_words
times_next-returns m c xs t begins held =
    let p = c.in_ok-factor.ensures (xs ++ term_words t) held in (
      Product t p.0,
      goes_on _ _ _ _ _ _ c.in_ok-sign.ensures ∙ goes_on _ _ _ _ _ _ p.1,
      c.insert_kind.ensures xs (term_words t ++ term_words p.0) begins (regrouped _ xs _ _ p.2),
    )
