-- A tree followed one question down.
use Rattle.std.proofs.Common.{◌≡◌, ◌*◌, ◌≤◌, min, length, get_or, take, ap, ◌∙◌, subst, arith}
use Rattle.field.specs.declared.sign.Sign.TheVariants.{Zero}
use Rattle.words.specs.declared.answer.Answer.TheVariants.{GivenUp}
use Rattle.std.proofs.lemmas.List.{length-take-le}
use Rattle.question.specs.Nodes.{node_at, chosen}
use Rattle.question.specs.Follow.{Follows}
use Rattle.question.proofs.Followed.{follows_yes, follows_no, follows_given_up, follows_beyond, follows_question}
use Rattle.question.proofs.follow.+follow_below.Goals as goal

pub returns-in-Yes : goal.returns-in-Yes
returns-in-Yes t c = follows_yes _ _ _ _ c.in-Yes.is

pub returns-in-No : goal.returns-in-No
returns-in-No t c = follows_no _ _ _ _ c.in-No.is

pub returns-in-GivenUp : goal.returns-in-GivenUp
returns-in-GivenUp t c = follows_given_up _ _ _ _ c.in-GivenUp.is

pub returns-then-i-min : goal.returns-then-i-min
returns-then-i-min t c =
    let top = c.args.questions.now.arena.top in
    let cells = c.args.questions.now.arena.cells.now in
    let long : length (take top cells) ≡ top = length-take-le top cells c.args.questions.now.arena.within in
    let whole : top ≡ 5 * c.args.questions.now.len = c.args.questions.now.whole in
    let few : length (take top cells) ≤ 5 * c.args.questions.now.len = omega arith in
    let beyond : min c.args.limit c.args.questions.now.len ≤ c.in-Question.i = omega (arith, c.if-i-min.true, c.min.ensures, c.len.ensures) in
    follows_beyond (take top cells) c.args.limit c.args.tree c.args.signs.now c.in-Question.i c.args.questions.now.len c.in-Question.is few beyond GivenUp

pub returns : goal.returns
returns t c =
    let cells = take c.args.questions.now.arena.top c.args.questions.now.arena.cells.now in
    let read : c.question-question.result ≡ node_at cells c.in-Question.i = c.question-question.ensures in
    follows_question cells c.args.limit c.args.tree c.args.signs.now c.in-Question.i c.in-Question.is c.sign_at.result
    (c.sign_at.ensures ∙ ap (λ q. get_or c.args.signs.now q.polynomial Zero) read) c.follow_below.result
    (subst (λ u. Follows cells c.in-Question.i u c.args.signs.now c.follow_below.result) (c.end-next.ensures ∙ ap (λ q. chosen q c.sign_at.result) read) c.follow_below.ensures)
