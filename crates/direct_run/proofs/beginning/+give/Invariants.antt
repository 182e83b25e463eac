use Rattle.std.proofs.Common.{length}
use Rattle.direct_run.proofs.beginning.+give.Given as goal

-- each call takes one parameter
abbrev pub decreases-give : goal.decreases-give
decreases-give l = length l.params.now
