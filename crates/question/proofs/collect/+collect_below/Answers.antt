-- A tree's polynomials noted, one end after the other.
use Rattle.std.proofs.Common.{◌≡◌, ◌*◌, ◌≤◌, min, length, take, ◌∙◌, arith}
use Rattle.std.proofs.lemmas.Result.{err_from_is_err_and}
use Rattle.std.proofs.lemmas.List.{length-take-le}
use Rattle.arena.specs.Standing.{standing}
use Rattle.question.specs.Numbers.{numbers}
use Rattle.question.proofs.Collected.{collects_none, collects_beyond, refused_above, refused_at, refused_below, collects_question}
use Rattle.question.proofs.collect.+collect_below.Goals as goal

pub returns-in_default-clause-stands : goal.returns-in_default-clause-stands
returns-in_default-clause-stands t c = collects_none _ _ _ _ (length c.args.found.now.cells.now) c.in_default.not-Question

pub returns-then-i-min-clause-stands : goal.returns-then-i-min-clause-stands
returns-then-i-min-clause-stands t c =
    let top = c.args.questions.now.arena.top in
    let cells = c.args.questions.now.arena.cells.now in
    let long : length (take top cells) ≡ top = length-take-le top cells c.args.questions.now.arena.within in
    let whole : top ≡ 5 * c.args.questions.now.len = c.args.questions.now.whole in
    let few : length (take top cells) ≤ 5 * c.args.questions.now.len = omega arith in
    let beyond : min c.args.limit c.args.questions.now.len ≤ c.in-Question.i = omega (arith, c.if-i-min.true, c.min.ensures, c.len.ensures) in
    collects_beyond (take top cells) c.args.limit c.args.tree _ (length c.args.found.now.cells.now) c.in-Question.i c.args.questions.now.len c.in-Question.is few beyond

pub returns-in_err-collect_below-clause-stands : goal.returns-in_err-collect_below-clause-stands
returns-in_err-collect_below-clause-stands t c =
    let p = err_from_is_err_and c.from_residual.result c.from_residual.ensures.1 in
    refused_above (numbers c.args.questions.now) c.args.limit c.args.tree (standing c.args.found.now) (length c.args.found.now.cells.now) c.in-Question.i c.in-Question.is
    c.question-question.result c.question-question.ensures c.in_err-collect_below.ensures.stands p.0 _ p.1 _

pub returns-in_err-collect_below-2-clause-stands : goal.returns-in_err-collect_below-2-clause-stands
returns-in_err-collect_below-2-clause-stands t c =
    let p = err_from_is_err_and c.from_residual-in_err-collect_below-2.result c.from_residual-in_err-collect_below-2.ensures.1 in
    let long-one = c.in_ok-collect_below.ensures.loan.long in
    refused_at (numbers c.args.questions.now) c.args.limit c.args.tree (standing c.args.found.now) (length c.args.found.now.cells.now) c.in-Question.i c.in-Question.is
    c.question-question.result c.question-question.ensures (standing c.collect_below.new.found) c.in_ok-collect_below.ensures.stands _ long-one c.in_err-collect_below-2.ensures.stands p.0 _ p.1 _

pub returns-in_err-collect_below-3-clause-stands : goal.returns-in_err-collect_below-3-clause-stands
returns-in_err-collect_below-3-clause-stands t c =
    let p = err_from_is_err_and c.from_residual-in_err-collect_below-3.result c.from_residual-in_err-collect_below-3.ensures.1 in
    let long-two = c.in_ok-collect_below-2.ensures.loan.long ∙ c.in_ok-collect_below.ensures.loan.long in
    refused_below (numbers c.args.questions.now) c.args.limit c.args.tree (standing c.args.found.now) (length c.args.found.now.cells.now) c.in-Question.i c.in-Question.is
    c.question-question.result c.question-question.ensures (standing c.collect_below.new.found) c.in_ok-collect_below.ensures.stands
    (standing c.collect_below-2.new.found) c.in_ok-collect_below-2.ensures.stands _ long-two c.in_err-collect_below-3.ensures.stands p.0 _ p.1 _

pub returns-clause-stands : goal.returns-clause-stands
returns-clause-stands t c =
    let long-three = c.in_ok-collect_below-3.ensures.loan.long ∙ c.in_ok-collect_below-2.ensures.loan.long ∙ c.in_ok-collect_below.ensures.loan.long in
    collects_question (numbers c.args.questions.now) c.args.limit c.args.tree (standing c.args.found.now) (length c.args.found.now.cells.now) c.in-Question.i c.in-Question.is
    c.question-question.result c.question-question.ensures (standing c.collect_below.new.found) c.in_ok-collect_below.ensures.stands
    (standing c.collect_below-2.new.found) c.in_ok-collect_below-2.ensures.stands (standing c.collect_below-3.new.found) c.in_ok-collect_below-3.ensures.stands
    _ long-three c.note.result (standing c.note.new.found) c.note.ensures.stands
