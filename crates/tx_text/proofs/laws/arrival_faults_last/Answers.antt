use Rattle.tx_text.specs.Arrivals.{arrivals_form}
use Rattle.tx_text.proofs.Listed.{fault_lasts}
use Rattle.tx_text.proofs.laws.arrival_faults_last.Goals as goal

pub returns : goal.returns
returns c = fault_lasts arrivals_form
