use Rattle.std.specs.Prelude.{Some, ◌≡◌}
use Rattle.cluster_run.specs.Standing.{Comes, SameBlocks}
use Rattle.turn_lock.specs.Passes.{pass_number}
use Rattle.cluster_run.proofs.running_jobs.run_job.Given as goal

abbrev pub invariant-loop : goal.invariant-loop
invariant-loop g l = Comes l.fn.pass l.pass (Some l.work) × (pass_number l.fn.pass ≡ 0 → SameBlocks l.fn.pass l.pass) × (l.work.job ≡ l.fn.work.job)
