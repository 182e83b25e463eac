use Rattle.serial_laws.proofs.Growing.{runs_stay}
use Rattle.serial_laws.proofs.laws.runs_stay.Goals as goal

pub returns : goal.returns
returns c = runs_stay
