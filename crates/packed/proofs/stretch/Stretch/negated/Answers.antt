-- The other sign.
use Rattle.terms.specs.LeadingTerms.{lowered}
use Rattle.std.proofs.Common.{drop}
use Rattle.packed.specs.Terms.{terms_in}
use Rattle.packed.proofs.Signed.{signed-other}
use Rattle.packed.proofs.stretch.Stretch.negated.Goals as goal

pub returns : goal.returns
returns c = signed-other c.args.self.negative (lowered c.args.self.down (drop c.args.self.from (terms_in c.args.self.view)))
