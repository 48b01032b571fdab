use Rattle.table_machine.proofs.Sounds.{sound_laws}
use Rattle.table_machine.proofs.laws.sound_stands.Goals as goal

pub returns : goal.returns
returns c = sound_laws
