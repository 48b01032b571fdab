use Rattle.std.proofs.Common.{rules, ℕ, subst}
use Rattle.std.proofs.iter.runs.Sources.{range_runs_back}
use Rattle.std.specs.Iterator.Runs.{ItemsCountDown}
use Rattle.poly.specs.Leading.{leading}
use Rattle.sign_table.specs.Facts.{Known}
use Rattle.terms.specs.Operations.{same_terms, neg_terms}
use Rattle.stacks.specs.Values.{fact_in}
use Rattle.stacks.specs.Memories.{front_poly, fact_from}
use Rattle.table_machine.specs.Told.{told_by, leading_front}
use Rattle.table_machine.proofs.Telling.{one_fact_more, first_told}
use Rattle.table_machine.proofs.polynomials.Polynomials.among_facts.Goals as goal

pub returns : goal.returns
returns c =
    let self = c.args.self.now in
    let n = self.others.count in
    let slots = self.slots.now in
    let facts = fact_in c.args.facts.now in
    let ts = leading_front n slots c.args.front.slot c.args.front.count in
    let told : ℕ → Known = λ x. let us = leading_front n slots (facts x).slot (facts x).count in told_by (same_terms ts us) (same_terms (neg_terms ts) us) (facts x).sign in
    let found = c.find_map.ensures.runs in
    let source = c.rev.ensures.runs found.0 found.0.seen found.1 in
    let down = range_runs_back source.0 source.0.seen in
    first_told n (leading n (front_poly n slots c.args.front.slot c.args.front.count)) (λ i. fact_from n slots (facts i)) told
    (λ k. one_fact_more n slots c.args.front.slot c.args.front.count k facts self.hold)
    found.0 source.0 _ _ c.args.len c.find_map.result (search rules) (search rules) source.2 (subst (λ r. ItemsCountDown source.0 r.start r.end) source.1 down) found.2
