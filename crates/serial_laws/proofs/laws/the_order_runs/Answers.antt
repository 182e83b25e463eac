use Rattle.serial_laws.proofs.Results.{the_order_runs}
use Rattle.serial_laws.proofs.laws.the_order_runs.Goals as goal

pub returns : goal.returns
returns c = the_order_runs
