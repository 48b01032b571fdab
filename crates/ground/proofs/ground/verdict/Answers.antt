-- The verdict by the number of quantifiers.
use Rattle.std.proofs.Common.{◌≡◌, sym, ap, ◌∙◌}
use Rattle.words.specs.Reading.{Read, meant}
use Rattle.words.specs.Words.{count_of}
use Rattle.ground.proofs.Followed.{ground_verdict, quantified_verdict}
use Rattle.ground.proofs.ground.verdict.Goals as goal

pub returns-then-branch-ne0 : goal.returns-then-branch-ne0
returns-then-branch-ne0 c =
    quantified_verdict c.args.words.now _ (sym c.if-not-is_sentence.ensures) _ c.if-branch-ne0.true c.in_ok-count.ensures

pub returns : goal.returns
returns c =
    let counted : Read 0 c.count.new.self.rest.now ≡ meant count_of c.args.words.now =
    ap (λ n. Read n c.count.new.self.rest.now) (sym c.if-branch-ne0.false) ∙ c.in_ok-count.ensures in
    c.verdict_of_body.ensures ∙ ground_verdict c.args.words.now c.count.new.self.rest.now (sym c.if-not-is_sentence.ensures) counted
