-- What a commit waits for.
use Rattle.node_model.specs.World.{BlockInWork, Job, World, due, is_for, job_at}
use Rattle.proc_syntax.specs.declared.call.Tx.{Tx}
use Rattle.std.specs.Prelude.{Some, true, ◌≡◌, ℕ}

-- the job of a number is that of the first undecided transaction of the block in work
pub record IsDueJob (w : World) (number : ℕ) (job : Job) : Type 0 where
  pub work : BlockInWork
  pub in_work : w.work ≡ Some work
  pub tx : Tx
  pub is_due : due work ≡ Some tx
  pub stands : job_at w.jobs number ≡ Some job
  pub has_tx : is_for tx job ≡ true
