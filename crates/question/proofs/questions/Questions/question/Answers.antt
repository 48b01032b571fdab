use Rattle.std.proofs.Common.{◌≡◌, ◌+◌, ◌*◌, ◌≤◌, ap, ◌∙◌, arith}
use Rattle.question.specs.Nodes.{node_of}
use Rattle.question.proofs.Nodes.{node_in-part}
use Rattle.question.proofs.questions.Questions.question.Goals as goal

pub returns : goal.returns
returns c =
    let asked = c.args.self.now in
    let whole : asked.arena.top ≡ 5 * asked.len = asked.whole in
    let inside : 5 * c.args.i + 5 ≤ asked.arena.top = omega arith in
    c.decoded.ensures ∙ ap node_of c.part.ensures ∙ node_in-part asked.arena.top asked.arena.cells.now c.args.i inside
