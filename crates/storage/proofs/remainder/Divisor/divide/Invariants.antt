use Rattle.std.proofs.Common.{◌≡◌, ◌+◌, ◌-◌}
use Rattle.terms.specs.LeadingTerms.{length_terms}
use Rattle.storage.specs.Spans.{terms_at}
use Rattle.storage.specs.Dividing.{Dividing}
use Rattle.storage.proofs.remainder.Divisor.divide.Given as goal

abbrev pub invariant-loop-steps : goal.invariant-loop-steps
invariant-loop-steps l =
    let cells = l.initial.arena.cells.now in
    let allowed = length_terms l.fn.self.others.count (terms_at l.initial.rest cells) + 1 in
    Dividing l.fn.self.others.count (terms_at l.fn.self.span cells) (terms_at l.initial.rest cells) l.mark cells allowed (allowed - l.steps) l.steps l.rest l.arena.top l.arena.cells.now ×
    (l.arena.cells.ghost_name ≡ l.initial.arena.cells.ghost_name)
