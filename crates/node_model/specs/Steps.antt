-- What may be asked of a node, what it answers, and the event that comes of it, if any: the first case that holds.
-- (The events and their answers are this project's own; the flow is that of Nathan and others, PVLDB 12(11), 2019.)
use Rattle.node_model.specs.Decide.{early}
use Rattle.node_model.specs.Events.{after, hit_since, is_settled, next_read, settled_in, with_sealed}
use Rattle.node_model.specs.Fold.{chain_digest}
use Rattle.node_model.specs.History.{ids_of, ids_told}
use Rattle.node_model.specs.World.{BlockInWork, Holds, Job, World, decided, due, eligible, holder_of, is_done, is_held_by, is_waiting, job_at, job_of, number_of_job}
use Rattle.node_model.specs.declared.journal.Event.TheVariants.{Arrive, Claim, Commit, Deliver, Finish, Read, Release, Seal}
use Rattle.node_model.specs.declared.journal.Event.{Event}
use Rattle.node_model.specs.declared.journal.Pick.TheVariants.{Nth, Due}
use Rattle.node_model.specs.declared.journal.Pick.{Pick}
use Rattle.node_model.specs.declared.outcome.Outcome.{Outcome}
use Rattle.proc_syntax.specs.Call.{call_fault}
use Rattle.proc_syntax.specs.Declaring.{tables_of}
use Rattle.proc_syntax.specs.declared.call.Block.{Block}
use Rattle.proc_syntax.specs.declared.call.Tx.{Tx}
use Rattle.proc_syntax.specs.declared.tree.App.{App}
use Rattle.rel_base.specs.Tables.{Stamped, place_of}
use Rattle.rel_base.specs.declared.access.Place.{Place}
use Rattle.std.specs.List.{list_any}
use Rattle.std.specs.Option.{is_some, option_and_then}
use Rattle.std.specs.Prelude.{Bool, IsSome, List, None, Option, Some, cond, false, length, map, slice_get, true, ◌%◌, ◌+◌, ◌++◌, ◌==◌, ◌||◌, ◌≡◌, ◌⊎◌, ℕ}
use Rattle.std.specs.Str.{bytes_eq}
use Rattle.std.specs.declared.alloc.Global.{Global}
use Rattle.std.specs.declared.sync.Arc.{Arc}

-- a value that the journal shares with the node
abbrev pub Shared : Type 0 → Type 0
Shared X = Arc X Global

-- what is asked: that a transaction arrives, that a job is claimed, that the job of a number reads, is finished or is released, that a
-- block is delivered, that the next transaction is committed, and that the block is sealed
pub data Ask : Type 0 where
  ToArrive : Shared Tx → Ask
  ToClaim : Pick → Ask
  ToRead : ℕ → Ask
  ToFinish : ℕ → Ask
  ToRelease : ℕ → Ask
  ToDeliver : Shared Block → Ask
  ToCommit : Ask
  ToSeal : Ask

pub data Answer : Type 0 where
  -- of an arrival: its call can not begin; it has a job, or its id was ordered; it waits as a new job
  Invalid : Answer
  Known : Answer
  Queued : Answer
  -- of a claim: there is none to take; the number of the job that is held now
  NoJob : Answer
  Claimed : ℕ → Answer
  -- of a read: it got its rows; it is hit by a committed write at a place
  Rows : Answer
  Doomed : Place → Answer
  -- of a read or a finish: the id is settled, in the block of a number
  Gone : ℕ → Answer
  -- of a finish: the job is done
  Kept : Answer
  Released : Answer
  -- of a delivery: the block of a number is in work; another number is expected; the block is taken
  InWork : ℕ → Answer
  NotNext : ℕ → Answer
  Taken : Answer
  -- of a commit: the position that was decided; the one that waits for its job, and who holds that; all of the block of a number is decided
  Decided : ℕ → Answer
  NotReady : ℕ → Option ℕ → Answer
  AllDecided : ℕ → Answer
  -- of a commit or a seal: no block is in work, after so many that are sealed
  NoBlock : ℕ → Answer
  -- of a seal: the first position that is not decided; the number and the digest of the sealed block
  NotAll : ℕ → Answer
  Digest : ℕ → List ℕ → Answer

-- an answer, and the event that is noted, if any
abbrev pub Reply : Type 0
Reply = Answer × Option Event

-- ---- arrivals

-- the id stands in the block in work
abbrev pub is_in_work : List ℕ → Option BlockInWork → Bool
is_in_work id None = false
is_in_work id (Some work) = list_any (bytes_eq id) (map (λ tx. tx.id) work.block.txs)

abbrev pub is_known : World → Tx → Bool
is_known w tx = is_some (job_of tx w.jobs) || (is_settled tx.id w.sealed || is_in_work tx.id w.work)

abbrev pub arrives : App → World → Shared Tx → Reply
arrives app w tx =
    cond (is_some (call_fault app tx.value)) (Invalid, None)
    (cond (is_known w tx.value) (Known, None) (Queued, Some (Arrive (length w.jobs + 1) tx)))

-- ---- claims

-- the cause of the first undecided transaction that is known without a run
abbrev pub early_cause : App → World → BlockInWork → Tx → Option Outcome
early_cause app w work tx = early app (ids_of w.sealed ++ ids_told work.done.outcomes) work.block.number tx

-- the number of a transaction's job, where that waits
abbrev pub waiting_number : Tx → List Job → Option Job → Option ℕ
waiting_number tx jobs None = None
waiting_number tx jobs (Some job) = cond (is_waiting job.status) (number_of_job tx jobs) None

-- the number of the job of the first undecided transaction, where that has no early cause and its job waits
abbrev pub due_number : App → World → BlockInWork → Option Tx → Option ℕ
due_number app w work None = None
due_number app w work (Some tx) = cond (is_some (early_cause app w work tx)) None (waiting_number tx w.jobs (job_of tx w.jobs))

-- the number of the job that is taken
abbrev pub chosen : App → World → Pick → Option ℕ
chosen app w (Nth n) = slice_get (eligible (length w.sealed) w.jobs) (n % length (eligible (length w.sealed) w.jobs))
chosen app w Due = option_and_then (λ work. due_number app w work (due work)) w.work

abbrev pub claims : Option ℕ → Reply
claims None = (NoJob, None)
claims (Some number) = (Claimed number, Some (Claim number))

-- ---- the run of a job

abbrev pub doomed_or_rows : Option Stamped → Answer
doomed_or_rows None = Rows
doomed_or_rows (Some stamped) = Doomed (place_of stamped)

-- where the id is not settled, the next read gets its rows or is hit by a write
abbrev pub reads_unless : App → World → ℕ → Job → Option ℕ → Reply
reads_unless app w number job (Some block) = (Gone block, None)
reads_unless app w number job None = (doomed_or_rows (option_and_then (hit_since app w.sealed job.tx) (next_read app w.sealed job)), Some (Read number))

abbrev pub reads : App → World → ℕ → Option Job → Reply
reads app w number None = (NoJob, None)
reads app w number (Some job) = reads_unless app w number job (settled_in job.tx.id w.sealed)

abbrev pub gone_or_kept : Option ℕ → Answer
gone_or_kept None = Kept
gone_or_kept (Some block) = Gone block

abbrev pub finishes : World → ℕ → Option Job → Reply
finishes w number None = (NoJob, None)
finishes w number (Some job) = (gone_or_kept (settled_in job.tx.id w.sealed), Some (Finish number))

-- ---- blocks

abbrev pub delivers : World → Shared Block → Option BlockInWork → Reply
delivers w block (Some work) = (InWork work.block.number, None)
delivers w block None =
    cond (block.value.number == (length w.sealed + 1)) (Taken, Some (Deliver block)) (NotNext (length w.sealed + 1), None)

abbrev pub is_done_job : Option Job → Bool
is_done_job None = false
is_done_job (Some job) = is_done job.status

-- a transaction can be decided where it has an early cause, or its job is done
abbrev pub is_ready : App → World → BlockInWork → Tx → Bool
is_ready app w work tx = is_some (early_cause app w work tx) || is_done_job (job_of tx w.jobs)

abbrev pub commits_due : App → World → BlockInWork → Option Tx → Reply
commits_due app w work None = (AllDecided work.block.number, None)
commits_due app w work (Some tx) =
    cond (is_ready app w work tx) (Decided (decided work + 1), Some (Commit (decided work + 1)))
    (NotReady (decided work + 1) (option_and_then (λ job. holder_of job.status) (job_of tx w.jobs)), None)

abbrev pub commits : App → World → Option BlockInWork → Reply
commits app w None = (NoBlock (length w.sealed), None)
commits app w (Some work) = commits_due app w work (due work)

abbrev pub seals_due : App → World → BlockInWork → Option Tx → Reply
seals_due app w work (Some tx) = (NotAll (decided work + 1), None)
seals_due app w work None = (Digest work.block.number (chain_digest (tables_of app) (with_sealed w.sealed (Some work))), Some (Seal work.block.number))

abbrev pub seals : App → World → Option BlockInWork → Reply
seals app w None = (NoBlock (length w.sealed), None)
seals app w (Some work) = seals_due app w work (due work)

-- ---- all

abbrev pub reply : App → World → Ask → Reply
reply app w (ToArrive tx) = arrives app w tx
reply app w (ToClaim pick) = claims (chosen app w pick)
reply app w (ToRead number) = reads app w number (job_at w.jobs number)
reply app w (ToFinish number) = finishes w number (job_at w.jobs number)
reply app w (ToRelease number) = (Released, Some (Release number))
reply app w (ToDeliver block) = delivers w block w.work
reply app w ToCommit = commits app w w.work
reply app w ToSeal = seals app w w.work

-- the state after what was noted
abbrev pub noted : App → World → ℕ → Option Event → World
noted app w actor None = w
noted app w actor (Some event) = after app w (record { actor = actor; event = event })

-- one step: the answer, and the state after it
abbrev pub step : App → World → ℕ → Ask → Answer × World
step app w actor ask = ((reply app w ask).0, noted app w actor (reply app w ask).1)

-- What an actor may ask: any may bring a transaction; to claim, it holds no job; to read, it holds the job, whose run was not cut and has
-- a next read; to finish, the run was cut or has none; to release, it holds the job; actor 0 alone has to do with blocks.
abbrev pub May : App → World → ℕ → Ask → Type 0
May app w actor (ToArrive tx) = Unit {0}
May app w actor (ToClaim pick) = list_any (λ job. is_held_by actor job.status) w.jobs ≡ false
May app w actor (ToRead number) = (job : Job) × Holds w.jobs actor number job × (job.recorded.cut ≡ false) × IsSome (next_read app w.sealed job)
May app w actor (ToFinish number) = (job : Job) × Holds w.jobs actor number job × ((job.recorded.cut ≡ true) ⊎ (next_read app w.sealed job ≡ None))
May app w actor (ToRelease number) = (job : Job) × Holds w.jobs actor number job
May app w actor (ToDeliver block) = actor ≡ 0
May app w actor ToCommit = actor ≡ 0
May app w actor ToSeal = actor ≡ 0
