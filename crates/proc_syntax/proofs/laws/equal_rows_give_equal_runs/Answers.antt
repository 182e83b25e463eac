use Rattle.proc_syntax.proofs.Runs.{equal_runs}
use Rattle.proc_syntax.proofs.laws.equal_rows_give_equal_runs.Goals as goal

pub returns : goal.returns
returns c = equal_runs
