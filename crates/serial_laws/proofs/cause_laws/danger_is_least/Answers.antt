use Rattle.serial_laws.proofs.Dangerous.{danger_is_least}
use Rattle.serial_laws.proofs.cause_laws.danger_is_least.Goals as goal

pub returns : goal.returns
returns c = danger_is_least
