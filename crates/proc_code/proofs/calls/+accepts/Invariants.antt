use Rattle.std.proofs.Common.{length}
use Rattle.proc_code.proofs.calls.+accepts.Given as goal

-- each call takes one parameter
abbrev pub decreases-accepts : goal.decreases-accepts
decreases-accepts l = length l.params.now
