use Rattle.serial_laws.proofs.Deciding.{premises_are_met}
use Rattle.serial_laws.proofs.cause_laws.premises_are_met.Goals as goal

pub returns : goal.returns
returns c = premises_are_met
