-- The place of the first that isn't below.
use Rattle.std.proofs.Common.{length, ap, ◌∙◌}
use Rattle.std.specs.Option.{unwrap_or}
use Rattle.packed.proofs.Leading.{first_or_end}
use Rattle.packed.proofs.view.View.count_below.Goals as goal

pub returns : goal.returns
returns c =
    c.unwrap_or.ensures ∙ ap (λ place. unwrap_or place (length c.args.self.now.cells.now)) c.first_at_least.ensures ∙ first_or_end c.args.bound c.args.self.now.cells.now
