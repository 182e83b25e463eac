use Rattle.serial_laws.proofs.Results.{results_run}
use Rattle.serial_laws.proofs.laws.results_run.Goals as goal

pub returns : goal.returns
returns c = results_run
