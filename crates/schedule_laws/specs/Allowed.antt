-- What an entry of a legal journal means, by the kind of its event: what holds in the state in which its actor made it.
use Rattle.node_model.specs.Events.{is_settled, next_read, settled_in}
use Rattle.node_model.specs.Steps.{is_ready}
use Rattle.node_model.specs.World.{BlockInWork, Holds, Job, World, decided, due, is_waiting, job_at, job_of}
use Rattle.node_model.specs.declared.journal.Event.TheVariants.{Arrive, Claim, Commit, Deliver, Finish, Read, Release, Seal}
use Rattle.node_model.specs.declared.journal.Event.{Event}
use Rattle.proc_syntax.specs.Call.{call_fault}
use Rattle.proc_syntax.specs.declared.call.Tx.{Tx}
use Rattle.proc_syntax.specs.declared.tree.App.{App}
use Rattle.std.specs.Prelude.{IsSome, None, Some, false, length, true, ◌+◌, ◌≡◌, ◌≤◌, ◌⊎◌, ℕ}

-- the transaction is new, and its call can begin
pub record IsNew (app : App) (w : World) (tx : Tx) : Type 0 where
  pub can : call_fault app tx ≡ None
  pub no_job : job_of tx w.jobs ≡ None
  pub not_settled : is_settled tx.id w.sealed ≡ false

-- the job of a number waits, and the tables of its height are there
pub record IsFree (w : World) (number : ℕ) : Type 0 where
  pub job : Job
  pub stands : job_at w.jobs number ≡ Some job
  pub waits : is_waiting job.status ≡ true
  pub low : job.tx.height ≤ length w.sealed

-- the actor holds the job, whose run was not cut and has a next read, and whose id is not settled
pub record CanRead (app : App) (w : World) (actor number : ℕ) : Type 0 where
  pub job : Job
  pub holds : Holds w.jobs actor number job
  pub not_cut : job.recorded.cut ≡ false
  pub next : IsSome (next_read app w.sealed job)
  pub not_settled : settled_in job.tx.id w.sealed ≡ None

-- the actor holds the job, whose run was cut or has no next read
pub record CanFinish (app : App) (w : World) (actor number : ℕ) : Type 0 where
  pub job : Job
  pub holds : Holds w.jobs actor number job
  pub at_end : (job.recorded.cut ≡ true) ⊎ (next_read app w.sealed job ≡ None)

-- the first undecided transaction of the block in work is ready
pub record CanCommit (app : App) (w : World) (pos : ℕ) : Type 0 where
  pub work : BlockInWork
  pub in_work : w.work ≡ Some work
  pub tx : Tx
  pub is_due : due work ≡ Some tx
  pub ready : is_ready app w work tx ≡ true
  pub at : pos ≡ decided work + 1

-- all of the block in work is decided
pub record CanSeal (w : World) (number : ℕ) : Type 0 where
  pub work : BlockInWork
  pub in_work : w.work ≡ Some work
  pub all_decided : due work ≡ None
  pub at : number ≡ work.block.number

abbrev pub Allows : App → World → ℕ → Event → Type 0
Allows app w actor (Arrive number tx) = (number ≡ length w.jobs + 1) × IsNew app w tx.value
Allows app w actor (Claim number) = IsFree w number
Allows app w actor (Read number) = CanRead app w actor number
Allows app w actor (Finish number) = CanFinish app w actor number
Allows app w actor (Release number) = (job : Job) × Holds w.jobs actor number job
Allows app w actor (Deliver block) = (actor ≡ 0) × (w.work ≡ None) × (block.value.number ≡ length w.sealed + 1)
Allows app w actor (Commit pos) = (actor ≡ 0) × CanCommit app w pos
Allows app w actor (Seal number) = (actor ≡ 0) × CanSeal w number
