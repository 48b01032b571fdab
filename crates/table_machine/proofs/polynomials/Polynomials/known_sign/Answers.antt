use Rattle.std.proofs.Common.{◌<◌, sym, ◌∙◌, arith}
use Rattle.machine.specs.Stacks.{back}
use Rattle.stacks.specs.Values.{fact_in}
use Rattle.stacks.specs.Memories.{fact_from}
use Rattle.table_machine.proofs.Telling.{known-number, known_zero_lem, known_among}
use Rattle.table_machine.proofs.polynomials.Polynomials.known_sign.Goals as goal

pub returns-then-count-eq0 : goal.returns-then-count-eq0
returns-then-count-eq0 c =
    let self = c.args.self.now in
    let fs = back (λ i. fact_from self.others.count self.slots.now (fact_in c.args.facts.now i)) c.args.len in
    known-number self.others.count self.slots.now c.args.front.slot c.args.front.count fs _ _ self.hold (sym c.count.ensures ∙ c.if-count-eq0.true) c.leading-leading.ensures c.number_sign.ensures

pub returns-then-len-eq0 : goal.returns-then-len-eq0
returns-then-len-eq0 c =
    let self = c.args.self.now in
    let fs = back (λ i. fact_from self.others.count self.slots.now (fact_in c.args.facts.now i)) c.args.len in
    let l : 0 < self.others.count = omega arith in
    known_zero_lem self.others.count self.slots.now c.args.front.slot c.args.front.count fs _ self.hold l c.leading-leading.ensures (sym c.len.ensures.value ∙ c.if-len-eq0.true)

pub returns : goal.returns
returns c =
    let self = c.args.self.now in
    let fs = back (λ i. fact_from self.others.count self.slots.now (fact_in c.args.facts.now i)) c.args.len in
    let l : 0 < self.others.count = omega arith in
    c.among_facts.ensures ∙
    known_among self.others.count self.slots.now c.args.front.slot c.args.front.count fs _ self.hold l c.leading-leading.ensures (λ z. c.if-len-eq0.false (c.len.ensures.value ∙ z))
