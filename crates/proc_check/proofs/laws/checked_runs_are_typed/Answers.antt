use Rattle.proc_check.proofs.Typed_runs.{checked_runs}
use Rattle.proc_check.proofs.laws.checked_runs_are_typed.Goals as goal

pub returns : goal.returns
returns c = checked_runs
