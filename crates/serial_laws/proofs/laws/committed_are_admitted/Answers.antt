use Rattle.serial_laws.proofs.Growing.{committed_are_admitted}
use Rattle.serial_laws.proofs.laws.committed_are_admitted.Goals as goal

pub returns : goal.returns
returns c = committed_are_admitted
