-- A job in the hands of the actor that holds it.
use Rattle.node_core.specs.declared.jobs.Record.{Record}
use Rattle.node_model.specs.World as world
use Rattle.node_model.specs.World.{Job}
use Rattle.proc_run.specs.MachineView.{Agrees, MachineView}
use Rattle.proc_run.specs.declared.state.Want.TheVariants as want
use Rattle.proc_run.specs.MachineView as machine
use Rattle.proc_syntax.specs.Declaring.{tables_of}
use Rattle.proc_syntax.specs.Run.{run}
use Rattle.proc_syntax.specs.declared.call.Tx.{Tx}
use Rattle.proc_syntax.specs.declared.run.Ending.TheVariants.{Good}
use Rattle.proc_syntax.specs.declared.run.Ran.{Ran}
use Rattle.rel_base.specs.Among.{ReadFitsIn}
use Rattle.rel_base.specs.Tables.{Tables}
use Rattle.rel_base.specs.declared.access.Made.{Made}
use Rattle.rel_base.specs.declared.access.Read.{Read}
use Rattle.rel_base.specs.declared.access.Seen.{Seen}
use Rattle.std.specs.Prelude.{Bool, IfSome, IsSome, List, None, Option, [], false, true, ◌++◌, ◌||◌, ◌≡◌, ◌∷◌, ℕ}

-- the job's number and actor; what its machine tells: application, call, time, the reads so far with their rows, the read that it wants,
-- and whether its run has ended; whether the run was cut after a late read; and whether its last read found the id settled
pub record InHand : Type 0 where
  pub job : ℕ
  pub actor : ℕ
  pub told : MachineView
  pub cut : Bool
  pub gone : Bool

-- ---- how far it is

-- it wants a read
abbrev pub WantsRead : InHand → Type 0
WantsRead work = (work.gone ≡ false) × IsSome work.told.asks

-- its run was cut or has ended
abbrev pub IsReady : InHand → Type 0
IsReady work = (work.cut || work.told.ended) ≡ true

-- it has asked for a read or come to its end, and nothing else of it is changed
abbrev pub IsSameRun : InHand → InHand → Type 0
IsSameRun old new = new ≡ record old { told = record old.told { asks = new.told.asks; ended = new.told.ended } }

-- ---- its record

-- reads alone, of a run that is not at its end or was cut
abbrev pub so_far : List Made → Ran
so_far reads = record { reads = reads; writes = []; ending = Good }

-- the job in the definitions
abbrev pub job_in : InHand → Job
job_in work = record { tx = work.told.tx; status = world.Held work.actor; recorded = record { ran = so_far work.told.fed; cut = work.cut } }

-- ---- what holds of each

-- the run of a machine's call on some tables
abbrev pub run_on : MachineView → Tables → Ran
run_on told tables = run told.app told.tx told.time tables

-- a read is the next of the run, on all tables on which the reads so far have their rows
abbrev pub IsNextRead : MachineView → Read → Type 0
IsNextRead told read = (tables : Tables) → Agrees (tables_of told.app) tables told.fed
    → machine.IsNextWant (want.Rows read) (tables_of told.app) tables told.fed (run_on told tables).reads

-- the reads so far are all of the run, on all such tables
abbrev pub AreAllReads : MachineView → Type 0
AreAllReads told = (tables : Tables) → Agrees (tables_of told.app) tables told.fed → (run_on told tables).reads ≡ told.fed

-- what is kept of a machine beside it is what the machine tells
pub record IsInHand (tx : Tx) (told : MachineView) (wants : Option Read) (ended cut : Bool) : Type 0 where
  pub same : told.tx ≡ tx
  pub asks : told.asks ≡ wants
  pub ends : told.ended ≡ ended
  pub next : IfSome wants (IsNextRead told)
  pub fits : IfSome wants (ReadFitsIn (tables_of told.app))
  pub all : ended ≡ true → AreAllReads told
  pub idle : (cut || ended) ≡ true → wants ≡ None

-- a read joins those so far, with its rows
abbrev pub with_read : InHand → Read → List Seen → Bool → InHand
with_read work read rows cut = record work { told = record work.told { fed = work.told.fed ++ record { read = read; rows = rows } ∷ []; asks = None }; cut = cut }

-- a record is that of a held job at its end: the reads that were cut, or the whole run on all tables on which the reads have their rows
pub record IsRecordOf (work : InHand) (recorded : Record) : Type 0 where
  pub cut : recorded.cut ≡ work.cut
  pub if_cut : work.cut ≡ true → recorded.ran ≡ so_far work.told.fed
  pub if_whole : work.cut ≡ false → (tables : Tables) → Agrees (tables_of work.told.app) tables work.told.fed → recorded.ran ≡ run_on work.told tables
