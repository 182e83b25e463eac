use Rattle.serial_laws.proofs.Deciding.{outcomes_name_the_least}
use Rattle.serial_laws.proofs.cause_laws.outcomes_name_the_least.Goals as goal

pub returns : goal.returns
returns c = outcomes_name_the_least
