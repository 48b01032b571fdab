-- The laws, as they are proved.
use Rattle.storage.proofs.Denoting.{denoting_laws}
use Rattle.storage.proofs.laws.denoting_stands.Goals as goal

pub returns : goal.returns
returns c = denoting_laws
