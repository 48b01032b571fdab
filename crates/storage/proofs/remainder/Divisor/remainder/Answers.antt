-- The sign is exchanged where the definition exchanges it.
use Rattle.std.proofs.Common.{sym, ◌∙◌, subst, arith}
use borrow.Author.Tests.{both_ways}
use Rattle.terms.specs.ModestTerms.{modest_terms}
use Rattle.terms.specs.Operations.{neg_terms}
use Rattle.storage.specs.Spans.{terms_at}
use Rattle.storage.specs.Storing.{Packed}
use Rattle.storage.specs.Dividing.{Remainder}
use Rattle.storage.proofs.Dividing.{plain-remainder, exchanged-remainder, exchanged-steps, modest-negated, span}
use Rattle.storage.proofs.remainder.Divisor.remainder.Goals as goal

pub returns-in_err-count-clause-value : goal.returns-in_err-count-clause-value
returns-in_err-count-clause-value c =
    let d = c.in_ok-quotient.ensures.value in
    let steps = exchanged-steps c.in_ok-quotient.quotient.steps c.args.leading (sym c.if-exchanges.ensures) in
    absurd (both_ways (modest_terms 4 (neg_terms (terms_at c.in_ok-quotient.quotient.rest c.divide.new.arena.cells.now))) c.in_err-count.ensures.stored.0
    (modest-negated (terms_at c.in_ok-quotient.quotient.rest c.divide.new.arena.cells.now) ∙ d.modest steps))

pub returns-then-exchanges-clause-value : goal.returns-then-exchanges-clause-value
returns-then-exchanges-clause-value c =
    let d = c.in_ok-quotient.ensures.value in
    let cells = c.args.arena.now.cells.now in
    let cells1 = c.divide.new.arena.cells.now in
    let e = c.top-mark.ensures in
    let rest = c.in_ok-quotient.quotient.rest in
    let k = subst (λ m. Packed c.in_ok-count.count (neg_terms (terms_at rest cells1)) m cells1 c.exchange.new.arena.top c.exchange.new.arena.cells.now) e c.in_ok-count.ensures.stored in
    let r = exchanged-remainder c.args.self.others.count c.args.leading (terms_at c.args.self.span cells) (terms_at c.args.dividend cells) c.args.arena.now.top cells c.in_ok-quotient.quotient.steps rest
    c.divide.new.arena.top cells1 c.in_ok-count.count c.exchange.new.arena.top c.exchange.new.arena.cells.now (sym c.if-exchanges.ensures)
    (omega (arith, d.untouched.long, c.requires.room)) d k in
    subst (λ m. Remainder c.args.self.others.count c.args.leading (terms_at c.args.self.span cells) (terms_at c.args.dividend cells) c.args.arena.now.top cells (span m c.in_ok-count.count) c.exchange.new.arena.top
    c.exchange.new.arena.cells.now) (sym e) r

pub returns-clause-value : goal.returns-clause-value
returns-clause-value c =
    let d = c.in_ok-quotient.ensures.value in
    plain-remainder c.args.self.others.count c.args.leading _ _ _ _ c.in_ok-quotient.quotient.steps c.in_ok-quotient.quotient.rest _ _ (sym c.if-exchanges.ensures) d
