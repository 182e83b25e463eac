-- What holds between any two steps.
-- (These facts are this project's own.)
use Rattle.node_model.specs.Decide.{early, run_at}
use Rattle.node_model.specs.Events.{is_settled}
use Rattle.node_model.specs.History.{SealedBlock, ids_of, ids_told}
use Rattle.node_model.specs.World.{BlockInWork, Job, World, decided, is_done, is_held, is_live, is_waiting, job_at, job_of, unread}
use Rattle.proc_syntax.specs.Call.{call_fault}
use Rattle.proc_syntax.specs.declared.call.Block.{Block}
use Rattle.proc_syntax.specs.declared.call.Tx.{Tx}
use Rattle.proc_syntax.specs.declared.tree.App.{App}
use Rattle.schedule_laws.specs.Records.{IsCut}
use Rattle.std.specs.Prelude.{IsSome, List, None, Some, [], false, length, map, slice_get, take, true, ◌+◌, ◌++◌, ◌||◌, ◌≡◌, ◌≤◌, ◌∷◌, ℕ}
use mathlib.Core.List.{IsPrefix}

-- sealed blocks are numbered without a gap, where the first has a number
abbrev pub AreCounted : ℕ → List SealedBlock → Type 0
AreCounted number [] = Unit {0}
AreCounted number (block ∷ rest) = (block.number ≡ number) × AreCounted (number + 1) rest

-- each job, by its number
abbrev pub EachJob : (Job → Type 0) → List Job → Type 0
EachJob P jobs = (number : ℕ) (job : Job) → job_at jobs number ≡ Some job → P job

-- a job, and what is recorded of it, fit its status, on these sealed blocks
pub record JobFits (app : App) (sealed : List SealedBlock) (job : Job) : Type 0 where
  -- its call can begin
  pub begins : call_fault app job.tx ≡ None
  -- where it waits or is done, its id is not settled
  pub unsettled : (is_waiting job.status || is_done job.status) ≡ true → is_settled job.tx.id sealed ≡ false
  -- the tables of the height of a held or done job are there
  pub low : (is_held job.status || is_done job.status) ≡ true → job.tx.height ≤ length sealed
  -- nothing is recorded of a job that waits
  pub fresh : is_waiting job.status ≡ true → job.recorded ≡ unread
  -- a held job has made the first reads of its run
  pub front : is_held job.status ≡ true → IsPrefix job.recorded.ran.reads (run_at app sealed job.tx).reads
  -- a done job has its whole run, or was cut
  pub whole : is_done job.status ≡ true → job.recorded.cut ≡ false → job.recorded.ran ≡ run_at app sealed job.tx
  -- one that was cut has the first reads of its run, the last of which is late
  pub cut_low : job.recorded.cut ≡ true → job.tx.height ≤ length sealed
  pub cut : job.recorded.cut ≡ true → IsCut app sealed job.tx job.recorded.ran.reads

-- no two jobs that are not dropped have the same transaction
abbrev pub AreApart : List Job → Type 0
AreApart jobs = (i j : ℕ) (one two : Job) → job_at jobs i ≡ Some one → job_at jobs j ≡ Some two
    → is_live one.status ≡ true → is_live two.status ≡ true → one.tx ≡ two.tx → i ≡ j

-- a transaction of a block, by its place from 0, has no cause that is known without a run
abbrev pub IsValid : App → List SealedBlock → Block → ℕ → Tx → Type 0
IsValid app sealed block place tx = early app (ids_of sealed ++ map (λ tx. tx.id) (take place block.txs)) block.number tx ≡ None

-- each valid undecided transaction of the block in work has a job that is not dropped
abbrev pub HaveJobs : App → World → BlockInWork → Type 0
HaveJobs app w work = (place : ℕ) (tx : Tx) → decided work ≤ place → slice_get work.block.txs place ≡ Some tx
    → IsValid app w.sealed work.block place tx → IsSome (job_of tx w.jobs)

-- what holds of the block in work: it is the next, its outcomes are those of its first transactions, and the others have jobs
pub record WorkFits (app : App) (w : World) (work : BlockInWork) : Type 0 where
  pub next : work.block.number ≡ length w.sealed + 1
  pub told : ids_told work.done.outcomes ≡ map (λ tx. tx.id) (take (decided work) work.block.txs)
  pub within : decided work ≤ length work.block.txs
  pub have_jobs : HaveJobs app w work

pub record FactsHold (app : App) (w : World) : Type 0 where
  pub counted : AreCounted 1 w.sealed
  pub jobs_fit : EachJob (JobFits app w.sealed) w.jobs
  pub apart : AreApart w.jobs
  pub work_fits : (work : BlockInWork) → w.work ≡ Some work → WorkFits app w work
