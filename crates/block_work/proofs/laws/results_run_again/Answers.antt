use Rattle.block_work.proofs.Replayed.{results_run_again}
use Rattle.block_work.proofs.laws.results_run_again.Goals as goal

pub returns : goal.returns
returns c = results_run_again
