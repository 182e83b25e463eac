use Rattle.serial_laws.proofs.Conflicting.{conflict_is_least}
use Rattle.serial_laws.proofs.cause_laws.conflict_is_least.Goals as goal

pub returns : goal.returns
returns c = conflict_is_least
