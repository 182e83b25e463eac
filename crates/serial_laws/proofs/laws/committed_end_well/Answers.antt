use Rattle.serial_laws.proofs.Growing.{committed_end_well}
use Rattle.serial_laws.proofs.laws.committed_end_well.Goals as goal

pub returns : goal.returns
returns c = committed_end_well
