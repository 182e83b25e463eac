use Rattle.std.specs.Prelude.{None}
use Rattle.cluster_run.specs.Standing.{Comes, SameBlocks}
use Rattle.cluster_run.proofs.deciding.run_due.Given as goal

abbrev pub invariant-loop : goal.invariant-loop
invariant-loop g l = Comes l.fn.pass l.pass None × SameBlocks l.fn.pass l.pass
