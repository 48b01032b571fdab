-- The operands are read where they lie, and what is made of them is stored in their place.
use Rattle.std.proofs.Common.{◌≡◌, ◌+◌, ◌≤◌, ◌⊎◌, length, None, sym, ◌∙◌, ap₂, subst₂, inl, inr, arith}
use mathlib.Core.Path.{subst₃}
use Rattle.wide.specs.Written.{written}
use Rattle.storage.specs.Spans.{terms_at}
use Rattle.sentence_tree.specs.Placed.{Places}
use Rattle.sentence_tree.specs.Operations.{combined, combined_lists}
use Rattle.sentence_tree.specs.Operands.{span, Joins}
use Rattle.sentence_tree.proofs.Joined.{combines, joins_both, joins_none}
use Rattle.sentence_tree.proofs.operation.place_combined.Goals as goal
use Rattle.sentence_tree.proofs.operation.place_combined.Goals.{in_default-via-in-Some+in_default, in_default-via-in_default}

pub returns-in_default-clause-placed : goal.returns-in_default-clause-placed
returns-in_default-clause-placed c =
    let o = c.args.operands in
    let op = c.args.operation in
    let cells = c.args.arena.now.cells.now in
    let fits : o.mark ≤ length cells = omega (arith, c.requires.ready.room) in
    let none : (o.left ≡ None) ⊎ (o.right ≡ None) = elim c.in_default.branch [ in_default-via-in-Some+in_default w ↦ inr w.in_default.is-1 | in_default-via-in_default w ↦ inl w.in_default.is-0 ] in
    subst₂ (λ t cs. Joins (combined op) o None c.args.arena.now.top cells t cs) (sym c.release.ensures.top) (sym c.release.ensures.cells)
    (joins_none (combined_lists op) (combined op) (combines op) o c.args.arena.now.top cells fits none)

pub returns-clause-placed : goal.returns-clause-placed
returns-clause-placed c =
    let o = c.args.operands in
    let op = c.args.operation in
    let cells = c.args.arena.now.cells.now in
    let fits : o.mark ≤ length cells = omega (arith, c.requires.ready.room) in
    let l = c.in-Some-Some.left in
    let r = c.in-Some-Some.right in
    let joined = combined_lists op (terms_at (span o.mark l) cells) (terms_at (span (o.mark + l) r) cells) in
    let computed : written c.compute.new.scratch.front ≡ joined = c.compute.ensures.value ∙ ap₂ (combined_lists op) c.view.ensures c.view-2.ensures in
    let places : Places joined c.place.result o.mark cells c.place.new.arena.top c.place.new.arena.cells.now =
    subst₃ (λ ts t cs. Places ts c.place.result t cs c.place.new.arena.top c.place.new.arena.cells.now) computed c.release-2.ensures.top c.release-2.ensures.cells c.place.ensures.placed in
    joins_both (combined_lists op) (combined op) (combines op) o c.args.arena.now.top cells fits l r c.in-Some-Some.is-0 c.in-Some-Some.is-1 c.place.result c.place.new.arena.top c.place.new.arena.cells.now places
