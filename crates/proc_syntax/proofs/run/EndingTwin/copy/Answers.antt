use Rattle.std.proofs.Common.{rules}
use Rattle.proc_syntax.proofs.run.EndingTwin.copy.Goals as goal

pub returns-in-IllTyped : goal.returns-in-IllTyped
returns-in-IllTyped c = search rules
