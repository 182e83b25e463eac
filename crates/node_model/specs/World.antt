-- The state of a node: its sealed blocks, the block in work, its jobs and its journal.
-- (Transactions that run before their block is known, and blocks whose transactions are decided one after another, are of Nathan and
-- others, PVLDB 12(11), 2019; jobs and their records are this project's own.)
use Rattle.node_model.specs.Fold.{Work}
use Rattle.node_model.specs.History.{SealedBlock}
use Rattle.node_model.specs.declared.journal.Entry.{Entry}
use Rattle.proc_syntax.specs.declared.call.Block.{Block}
use Rattle.proc_syntax.specs.declared.call.Tx.{Tx}
use Rattle.proc_syntax.specs.declared.run.Ending.TheVariants.{Good}
use Rattle.proc_syntax.specs.declared.run.Ran.{Ran}
use Rattle.rel_base.specs.Value.{key_eq}
use Rattle.std.specs.List.{enumerate_from, filter, position_from}
use Rattle.std.specs.Prelude.{Bool, List, None, Option, Some, [], false, find, length, map, nat_le, slice_get, suc, true, zero, ◌&&◌, ◌==◌, ◌≡◌, ◌∷◌, ℕ}
use Rattle.std.specs.Str.{bytes_eq}

-- ---- jobs

-- a job waits, is held by an actor, is done, or is dropped
pub data JobStatus : Type 0 where
  Waiting : JobStatus
  Held : ℕ → JobStatus
  Done : JobStatus
  Dropped : JobStatus

-- What is recorded of a job's run: the reads that it made so far, with their rows, and once it is done its writes and its end; and
-- whether it was cut short, after a read that is late.
pub record Record : Type 0 where
  pub ran : Ran
  pub cut : Bool

-- the transaction whose run is the job
pub record Job : Type 0 where
  pub tx : Tx
  pub status : JobStatus
  pub recorded : Record

abbrev pub is_waiting : JobStatus → Bool
is_waiting Waiting = true
is_waiting (Held actor) = false
is_waiting Done = false
is_waiting Dropped = false

abbrev pub is_held : JobStatus → Bool
is_held Waiting = false
is_held (Held actor) = true
is_held Done = false
is_held Dropped = false

abbrev pub is_done : JobStatus → Bool
is_done Waiting = false
is_done (Held actor) = false
is_done Done = true
is_done Dropped = false

-- a job that is not dropped
abbrev pub is_live : JobStatus → Bool
is_live Waiting = true
is_live (Held actor) = true
is_live Done = true
is_live Dropped = false

-- the actor that holds a job
abbrev pub holder_of : JobStatus → Option ℕ
holder_of Waiting = None
holder_of (Held actor) = Some actor
holder_of Done = None
holder_of Dropped = None

abbrev pub is_held_by : ℕ → JobStatus → Bool
is_held_by actor Waiting = false
is_held_by actor (Held holder) = holder == actor
is_held_by actor Done = false
is_held_by actor Dropped = false

-- nothing read yet
abbrev pub unread : Record
unread = record { ran = record { reads = []; writes = []; ending = Good }; cut = false }

-- a job as it comes about
abbrev pub new_job : Tx → Job
new_job tx = record { tx = tx; status = Waiting; recorded = unread }

-- two transactions are the same in all parts
abbrev pub same_tx : Tx → Tx → Bool
same_tx one two = bytes_eq one.id two.id && ((one.height == two.height) && (bytes_eq one.procedure two.procedure && key_eq one.args two.args))

-- a job is that of a transaction where it is not dropped and has the same transaction; the id alone does not tell it
abbrev pub is_for : Tx → Job → Bool
is_for tx job = is_live job.status && same_tx job.tx tx

-- ---- jobs by their numbers, which count from 1 in the order in which they came about

-- the job of a number
abbrev pub job_at : List Job → ℕ → Option Job
job_at jobs zero = None
job_at jobs (suc place) = slice_get jobs place

-- the jobs with a change of one, by its place from 0
abbrev pub change_place : (Job → Job) → List Job → ℕ → List Job
change_place change [] place = []
change_place change (job ∷ jobs) zero = change job ∷ jobs
change_place change (job ∷ jobs) (suc place) = job ∷ change_place change jobs place

-- the jobs with a change of the one of a number
abbrev pub change_job : (Job → Job) → List Job → ℕ → List Job
change_job change jobs zero = jobs
change_job change jobs (suc place) = change_place change jobs place

-- the job of a transaction, and its number
abbrev pub job_of : Tx → List Job → Option Job
job_of tx jobs = find (is_for tx) jobs

abbrev pub number_of_job : Tx → List Job → Option ℕ
number_of_job tx jobs = position_from (is_for tx) 1 jobs

-- a job waits, and the tables of its height are there
abbrev pub is_eligible : ℕ → Job → Bool
is_eligible height job = is_waiting job.status && nat_le job.tx.height height

-- the numbers of these jobs, in order
abbrev pub eligible : ℕ → List Job → List ℕ
eligible height jobs = map (λ numbered. numbered.0) (filter (λ numbered. is_eligible height numbered.1) (enumerate_from 1 jobs))

-- ---- the whole

-- the block in work, and what its first transactions came to
pub record BlockInWork : Type 0 where
  pub block : Block
  pub done : Work

pub record World : Type 0 where
  pub sealed : List SealedBlock
  pub work : Option BlockInWork
  pub jobs : List Job
  pub journal : List Entry

-- as it begins
abbrev pub empty : World
empty = record { sealed = []; work = None; jobs = []; journal = [] }

-- how many transactions of the block in work are decided, and the first that is not
abbrev pub decided : BlockInWork → ℕ
decided work = length work.done.outcomes

abbrev pub due : BlockInWork → Option Tx
due work = slice_get work.block.txs (decided work)

-- an actor holds the job of a number
pub record Holds (jobs : List Job) (actor number : ℕ) (job : Job) : Type 0 where
  pub stands : job_at jobs number ≡ Some job
  pub held : job.status ≡ Held actor

-- an actor holds no job
abbrev pub HoldsNone : World → ℕ → Type 0
HoldsNone w actor = (number : ℕ) (job : Job) → Holds w.jobs actor number job → ⊥
