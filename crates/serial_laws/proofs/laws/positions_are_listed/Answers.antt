use Rattle.serial_laws.proofs.Admitted.{positions_are_listed}
use Rattle.serial_laws.proofs.laws.positions_are_listed.Goals as goal

pub returns : goal.returns
returns c = positions_are_listed
