use Rattle.proc_code.proofs.Coded_runs.{code_runs}
use Rattle.proc_code.proofs.laws.code_runs_are_runs.Goals as goal

pub returns : goal.returns
returns c = code_runs
