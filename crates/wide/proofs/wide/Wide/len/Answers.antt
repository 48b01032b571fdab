-- As many monomials are written as the count says.
use Rattle.std.proofs.Common.{sym}
use Rattle.wide.proofs.Written.{written-length}
use Rattle.wide.proofs.wide.Wide.len.Goals as goal

pub returns : goal.returns
returns c = sym (written-length c.args.self.now)
