use Rattle.std.proofs.Common.{length}
use Rattle.proc_run.proofs.start.+give.Given as goal

-- each call takes one parameter
abbrev pub decreases-give : goal.decreases-give
decreases-give l = length l.params.now
