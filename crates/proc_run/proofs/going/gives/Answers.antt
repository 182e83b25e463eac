use Rattle.std.proofs.Common.{rules}
use Rattle.proc_run.proofs.going.gives.Goals as goal

pub returns-in-Stopped : goal.returns-in-Stopped
returns-in-Stopped c = search rules
