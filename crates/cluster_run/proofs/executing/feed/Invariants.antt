use Rattle.std.specs.Prelude.{take, ◌<◌}
use Rattle.cluster_run.specs.Arrivals.{IsSubsequence, arrived}
use Rattle.turn_lock.specs.Passes.{HoldsNoTurn, IsSamePass, mine}
use Rattle.cluster_run.proofs.executing.feed.Given as goal

abbrev pub invariant-loop-tx : goal.invariant-loop-tx
invariant-loop-tx g l = IsSamePass l.fn.pass l.pass × HoldsNoTurn l.pass × (l.made < 32) × IsSubsequence (arrived (mine l.pass)) (take l.tx-index l.crew.arrivals.now)
