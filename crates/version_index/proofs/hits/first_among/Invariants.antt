use Rattle.std.proofs.Common.{length}
use Rattle.version_index.proofs.Watching.{HitWalk}
use Rattle.version_index.proofs.hits.first_among.Given as goal

-- the numbers below one are left, and the first hit among those from there on was found
abbrev pub invariant-loop-number : goal.invariant-loop-number
invariant-loop-number l = HitWalk l.watch l.view l.numbers l.left l.fn.found l.first

-- fewer are left
abbrev pub decreases-loop-number : goal.decreases-loop-number
decreases-loop-number l = length l.left
