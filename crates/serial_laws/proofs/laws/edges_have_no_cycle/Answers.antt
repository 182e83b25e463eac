use Rattle.serial_laws.proofs.Admitted.{edges_have_no_cycle}
use Rattle.serial_laws.proofs.laws.edges_have_no_cycle.Goals as goal

pub returns : goal.returns
returns c = edges_have_no_cycle
