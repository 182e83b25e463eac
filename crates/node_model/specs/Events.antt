-- What each event does to the state of a node.
-- (A run before its block, an early abort, decisions in the order of the block and the seal of a block are of Nathan and others,
-- PVLDB 12(11), 2019; the eight events are this project's own.)
use Rattle.node_model.specs.Decide.{early, run_at}
use Rattle.node_model.specs.Fold.{no_work, sealed_as, work_by}
use Rattle.node_model.specs.History.{SealedBlock, history_of, ids_of, ids_told, snapshot}
use Rattle.node_model.specs.World.{BlockInWork, Done, Dropped, Held, Job, Record, World, change_job, due, is_done, is_waiting, job_of, new_job, unread}
use Rattle.node_model.specs.declared.journal.Entry.{Entry}
use Rattle.node_model.specs.declared.journal.Event.TheVariants.{Arrive, Claim, Commit, Deliver, Finish, Read, Release, Seal}
use Rattle.node_model.specs.declared.journal.Event.{Event}
use Rattle.proc_syntax.specs.Declaring.{tables_of}
use Rattle.proc_syntax.specs.declared.call.Tx.{Tx}
use Rattle.proc_syntax.specs.declared.run.Ran.{Ran}
use Rattle.proc_syntax.specs.declared.tree.App.{App}
use Rattle.rel_base.specs.Among.{rows_in}
use Rattle.rel_base.specs.Late.{least_hit}
use Rattle.rel_base.specs.Tables.{Stamped, writes_between}
use Rattle.rel_base.specs.declared.access.Made.{Made}
use Rattle.rel_base.specs.declared.access.Read as access
use Rattle.std.specs.List.{list_any}
use Rattle.std.specs.Option.{is_some, option_map}
use Rattle.std.specs.Prelude.{Bool, List, None, Option, Some, [], cond, find, length, map, slice_get, ◌&&◌, ◌++◌, ◌||◌, ◌∷◌, ℕ}
use Rattle.std.specs.Str.{bytes_eq}

-- ---- ids that are settled

-- an id stands in a block
abbrev pub has_told : List ℕ → SealedBlock → Bool
has_told id block = list_any (bytes_eq id) (ids_told block.outcomes)

-- the number of the sealed block in which an id first stands
abbrev pub settled_in : List ℕ → List SealedBlock → Option ℕ
settled_in id sealed = option_map (λ block. block.number) (find (has_told id) sealed)

-- an id is settled once it stands in a sealed block
abbrev pub is_settled : List ℕ → List SealedBlock → Bool
is_settled id sealed = is_some (settled_in id sealed)

abbrev pub dropped : Job → Job
dropped job = record { tx = job.tx; status = Dropped; recorded = job.recorded }

-- ---- the run of a job

-- claim: an actor holds the job, with nothing read
abbrev pub claimed : ℕ → Job → Job
claimed actor job = record { tx = job.tx; status = Held actor; recorded = unread }

-- the read that the run makes after those on record
abbrev pub next_read : App → List SealedBlock → Job → Option access.Read
next_read app sealed job = option_map (λ made. made.read) (slice_get (run_at app sealed job.tx).reads (length job.recorded.ran.reads))

-- the least write of the blocks since the height that a read of the transaction hits
abbrev pub hit_since : App → List SealedBlock → Tx → access.Read → Option Stamped
hit_since app sealed tx read = least_hit (tables_of app) read (writes_between tx.height (length sealed) (history_of sealed))

-- a read, with the rows that it gets of the tables of the height
abbrev pub made_at : App → List SealedBlock → Tx → access.Read → Made
made_at app sealed tx read = record { read = read; rows = rows_in (tables_of app) read (snapshot tx.height sealed) }

-- a read joins the record, which is cut where the read is hit
abbrev pub record_read : App → List SealedBlock → Job → Option access.Read → Job
record_read app sealed job None = job
record_read app sealed job (Some read) = record {
  tx = job.tx;
  status = job.status;
  recorded = record {
    ran = record job.recorded.ran { reads = job.recorded.ran.reads ++ made_at app sealed job.tx read ∷ [] };
    cut = is_some (hit_since app sealed job.tx read);
  };
}

-- read: the run makes its next read
abbrev pub read_on : App → List SealedBlock → Job → Job
read_on app sealed job = record_read app sealed job (next_read app sealed job)

-- a record that was not cut gets the writes and the end of the run
abbrev pub ended : Record → Ran → Record
ended recorded ran = cond recorded.cut recorded (record { ran = record { reads = recorded.ran.reads; writes = ran.writes; ending = ran.ending }; cut = recorded.cut })

-- finish: the job is done, or dropped where its id is settled
abbrev pub finished : App → List SealedBlock → Job → Job
finished app sealed job =
    cond (is_settled job.tx.id sealed) (dropped job) (record { tx = job.tx; status = Done; recorded = ended job.recorded (run_at app sealed job.tx) })

-- release: the job waits again with nothing read, or is dropped where its id is settled
abbrev pub released : List SealedBlock → Job → Job
released sealed job = cond (is_settled job.tx.id sealed) (dropped job) (new_job job.tx)

-- ---- blocks

-- whether a transaction of the block of a number, with some ids before it, has a cause that is known without a run, or a job
abbrev pub needs_no_job : App → List (List ℕ) → ℕ → List Job → Tx → Bool
needs_no_job app ids number jobs tx = is_some (early app ids number tx) || is_some (job_of tx jobs)

-- deliver: a new job for each transaction of the block that needs one, in order
abbrev pub with_jobs : App → List (List ℕ) → ℕ → List Tx → List Job → List Job
with_jobs app ids number [] jobs = jobs
with_jobs app ids number (tx ∷ txs) jobs =
    with_jobs app (ids ++ tx.id ∷ []) number txs (cond (needs_no_job app ids number jobs tx) jobs (jobs ++ new_job tx ∷ []))

-- what is recorded of a job's run, and nothing where there is no job
abbrev pub recorded_ran : Option Job → Ran
recorded_ran None = unread.ran
recorded_ran (Some job) = job.recorded.ran

-- commit: the first undecided transaction is decided by what is recorded of its job's run
abbrev pub decide_due : App → List SealedBlock → List Job → BlockInWork → Option Tx → BlockInWork
decide_due app sealed jobs work None = work
decide_due app sealed jobs work (Some tx) =
    record { block = work.block; done = work_by app sealed work.block.number work.done tx (recorded_ran (job_of tx jobs)) }

abbrev pub commit_next : App → List SealedBlock → List Job → Option BlockInWork → Option BlockInWork
commit_next app sealed jobs work = option_map (λ work. decide_due app sealed jobs work (due work)) work

-- seal: the block in work joins the sealed ones, and waiting and done jobs whose ids are settled by it are dropped
abbrev pub with_sealed : List SealedBlock → Option BlockInWork → List SealedBlock
with_sealed sealed None = sealed
with_sealed sealed (Some work) = sealed ++ sealed_as work.block work.done ∷ []

abbrev pub is_over : List SealedBlock → Job → Bool
is_over sealed job = (is_waiting job.status || is_done job.status) && is_settled job.tx.id sealed

abbrev pub drop_over : List SealedBlock → Job → Job
drop_over sealed job = cond (is_over sealed job) (dropped job) job

-- ---- the events

-- the state after an event, but for the journal
abbrev pub happens : App → World → ℕ → Event → World
happens app w actor (Arrive number tx) = record w { jobs = w.jobs ++ new_job tx.value ∷ [] }
happens app w actor (Claim number) = record w { jobs = change_job (claimed actor) w.jobs number }
happens app w actor (Read number) = record w { jobs = change_job (read_on app w.sealed) w.jobs number }
happens app w actor (Finish number) = record w { jobs = change_job (finished app w.sealed) w.jobs number }
happens app w actor (Release number) = record w { jobs = change_job (released w.sealed) w.jobs number }
happens app w actor (Deliver block) = record w {
  work = Some (record { block = block.value; done = no_work });
  jobs = with_jobs app (ids_of w.sealed) block.value.number block.value.txs w.jobs;
}
happens app w actor (Commit pos) = record w { work = commit_next app w.sealed w.jobs w.work }
happens app w actor (Seal number) = record w {
  sealed = with_sealed w.sealed w.work;
  work = None;
  jobs = map (drop_over (with_sealed w.sealed w.work)) w.jobs;
}

-- the state after an entry, which joins the journal
abbrev pub after : App → World → Entry → World
after app w entry = record (happens app w entry.actor entry.event) { journal = w.journal ++ entry ∷ [] }
