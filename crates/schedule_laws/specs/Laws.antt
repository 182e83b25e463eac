-- The laws, each the contract of a function of the module `laws`.
use Rattle.node_model.specs.Decide.{run_at, writes_since}
use Rattle.node_model.specs.Events.{after}
use Rattle.node_model.specs.Fold.{Work, fold, work_by, work_on}
use Rattle.node_model.specs.History.{SealedBlock}
use Rattle.node_model.specs.Journals.{IsLegal, IsStep, delivered, world}
use Rattle.node_model.specs.Steps.{Ask, May, NotReady, ToCommit, chosen, reply}
use Rattle.node_model.specs.World.{Held, Job, Record, World, is_waiting}
use Rattle.node_model.specs.declared.journal.Entry.{Entry}
use Rattle.node_model.specs.declared.journal.Pick.TheVariants.{Due}
use Rattle.proc_syntax.specs.Declaring.{tables_of}
use Rattle.proc_syntax.specs.declared.call.Tx.{Tx}
use Rattle.proc_syntax.specs.declared.tree.App.{App}
use Rattle.rel_base.specs.Late.{late}
use Rattle.rel_base.specs.declared.access.Made.{Made}
use Rattle.schedule_laws.specs.Allowed.{Allows}
use Rattle.schedule_laws.specs.Due.{IsDueJob}
use Rattle.schedule_laws.specs.Facts.{FactsHold}
use Rattle.schedule_laws.specs.Records.{IsCut, TellsRun}
use Rattle.schedule_laws.specs.Scheduled.{IsOfFold}
use Rattle.schedule_laws.specs.Stable.{IsLater, entries_by}
use Rattle.std.specs.Prelude.{IsSome, List, None, Some, [], length, map, take, true, ◌+◌, ◌++◌, ◌≡◌, ◌≤◌, ℕ}

-- ---- deciding by a record

-- the late read of reads that were cut short is the late read of the whole run, on all blocks before the next one
abbrev pub CutReadsTell : Type 0
CutReadsTell = (app : App) (sealed : List SealedBlock) (tx : Tx) (reads : List Made) → IsCut app sealed tx reads
    → IsSome (late (tables_of app) (map (λ made. made.read) reads) (writes_since sealed (length sealed + 1) tx))
    × (late (tables_of app) (map (λ made. made.read) (run_at app sealed tx).reads) (writes_since sealed (length sealed + 1) tx)
    ≡ late (tables_of app) (map (λ made. made.read) reads) (writes_since sealed (length sealed + 1) tx))

-- so what is decided by a record is what the whole run decides
abbrev pub RecordsDecide : Type 0
RecordsDecide = (app : App) (sealed : List SealedBlock) (work : Work) (tx : Tx) (recorded : Record) → TellsRun app sealed tx recorded
    → work_by app sealed (length sealed + 1) work tx recorded.ran ≡ work_on app sealed (length sealed + 1) work tx

-- ---- entries and facts

-- an entry of a step means what its kind says
abbrev pub StepsAreAllowed : Type 0
StepsAreAllowed = (app : App) (w : World) (entry : Entry) → FactsHold app w → IsStep app w entry → Allows app w entry.actor entry.event

-- each step keeps the facts
abbrev pub StepsKeepFacts : Type 0
StepsKeepFacts = (app : App) (w : World) (entry : Entry) → FactsHold app w → IsStep app w entry → FactsHold app (after app w entry)

-- so they hold in the state of every legal journal
abbrev pub FactsAlwaysHold : Type 0
FactsAlwaysHold = (app : App) (journal : List Entry) → IsLegal app journal → FactsHold app (world app journal)

-- ---- what is due

-- the job that is claimed as the due one is that of the first undecided transaction, and waits
abbrev pub DueIsFirst : Type 0
DueIsFirst = (app : App) (w : World) (number : ℕ) → chosen app w Due ≡ Some number → (job : Job) × IsDueJob w number job × (is_waiting job.status ≡ true)

-- where a commit is not ready and names no holder, there is a job to claim as the due one
abbrev pub WaitingIsDue : Type 0
WaitingIsDue = (app : App) (w : World) (pos : ℕ) → FactsHold app w → (reply app w ToCommit).0 ≡ NotReady pos None → IsSome (chosen app w Due)

-- and where it names one, that actor holds the job of the first undecided transaction
abbrev pub HolderIsNamed : Type 0
HolderIsNamed = (app : App) (w : World) (pos holder : ℕ) → FactsHold app w → (reply app w ToCommit).0 ≡ NotReady pos (Some holder)
    → (number : ℕ) × (job : Job) × IsDueJob w number job × (job.status ≡ Held holder)

-- ---- schedules

-- whatever the schedule, what is sealed is the fold of what was delivered
abbrev pub SchedulesFold : Type 0
SchedulesFold = (app : App) (journal : List Entry) → IsLegal app journal → IsOfFold app journal (world app journal)

-- where one schedule sealed so many blocks, another that delivered the same ones first and sealed as many has sealed the same first
abbrev pub SchedulesAgree : Type 0
SchedulesAgree = (app : App) (one two : List Entry) → IsLegal app one → IsLegal app two
    → length (world app one).sealed ≤ length (world app two).sealed
    → take (length (world app one).sealed) (delivered one) ≡ take (length (world app one).sealed) (delivered two)
    → (world app one).sealed ≡ take (length (world app one).sealed) (world app two).sealed

-- so two schedules that delivered the same blocks and have none in work sealed the same
abbrev pub SchedulesSealTheSame : Type 0
SchedulesSealTheSame = (app : App) (one two : List Entry) → IsLegal app one → IsLegal app two
    → (world app one).work ≡ None → (world app two).work ≡ None → delivered one ≡ delivered two → (world app one).sealed ≡ (world app two).sealed

-- the state of a legal journal has that journal
abbrev pub WorldsHaveJournals : Type 0
WorldsHaveJournals = (app : App) (journal : List Entry) → (world app journal).journal ≡ journal

-- ---- what others do

-- the entries of others leave an actor its own
abbrev pub OthersLeave : Type 0
OthersLeave = (app : App) (journal others : List Entry) (actor : ℕ) → IsLegal app (journal ++ others) → entries_by actor others ≡ []
    → IsLater app actor (world app journal) (world app (journal ++ others))

-- so what the actor might ask it may ask still
abbrev pub MayStays : Type 0
MayStays = (app : App) (journal others : List Entry) (actor : ℕ) (ask : Ask) → IsLegal app (journal ++ others) → entries_by actor others ≡ []
    → May app (world app journal) actor ask → May app (world app (journal ++ others)) actor ask

-- actor 0 alone delivers, so its own entries tell the blocks
abbrev pub OwnDeliveries : Type 0
OwnDeliveries = (app : App) (journal : List Entry) → IsLegal app journal → delivered (entries_by 0 journal) ≡ delivered journal

-- and where no block is in work, what is sealed is the fold of what actor 0 delivered
abbrev pub FoldOfOwn : Type 0
FoldOfOwn = (app : App) (journal : List Entry) → IsLegal app journal → (world app journal).work ≡ None
    → (world app journal).sealed ≡ fold app (delivered (entries_by 0 journal))
