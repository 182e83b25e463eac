use Rattle.chain_file.proofs.Stopped.{fault_lasts}
use Rattle.chain_file.proofs.laws.faults_last.Goals as goal

pub returns : goal.returns
returns c = fault_lasts
