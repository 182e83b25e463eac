use Rattle.std.proofs.Common.{rules}
use Rattle.proc_check.proofs.scope.Scope.leave.Goals as goal

pub loop-init : goal.loop-init
loop-init c = search rules
