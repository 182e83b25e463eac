use Rattle.std.specs.Prelude.{None}
use Rattle.cluster_run.specs.Standing.{Comes}
use Rattle.cluster_run.proofs.executing.execute.Given as goal

abbrev pub invariant-loop : goal.invariant-loop
invariant-loop g l = Comes l.fn.pass l.pass None
