-- A machine as its callers see it.
use Rattle.std.specs.Prelude.{◌≡◌, ◌≤◌, ◌+◌, ℕ, ℤ, Bool, true, false, List, [], ◌∷◌, ◌++◌, Option, Some, None, vec_len, vec_capacity}
use Rattle.std.specs.List.{AllByRecursion}
use Rattle.rel_base.specs.declared.access.Made.{Made}
use Rattle.rel_base.specs.declared.access.Read.{Read}
use Rattle.rel_base.specs.declared.schema.TableDef.{TableDef}
use Rattle.rel_base.specs.Among.{ReadFitsIn, rows_in}
use Rattle.rel_base.specs.Tables.{Tables}
use Rattle.row_sets.specs.Overlay.{AreFound}
use Rattle.proc_syntax.specs.declared.call.Tx.{Tx}
use Rattle.proc_syntax.specs.declared.tree.App.{App}
use Rattle.proc_syntax.specs.Declaring.{tables_of}
use Rattle.proc_syntax.specs.Run as meaning
use Rattle.proc_code.specs.declared.tree.Action.{Action}
use Rattle.proc_code.specs.declared.tree.AppCode.{AppCode}
use Rattle.proc_code.specs.Coded.{State, code_run}
use Rattle.proc_code.specs.Resolved.{code_of}
use Rattle.proc_run.specs.declared.path.Branch.TheVariants.{Whole}
use Rattle.proc_run.specs.declared.path.Spot.{Spot}
use Rattle.proc_run.specs.declared.path.Spot.TheVariants.{Block}
use Rattle.proc_run.specs.declared.state.Phase.{Phase}
use Rattle.proc_run.specs.declared.state.Phase.TheVariants as phase
use Rattle.proc_run.specs.declared.state.Run.{Run}
use Rattle.proc_run.specs.declared.state.Want.{Want}
use Rattle.proc_run.specs.declared.state.Want.TheVariants as want
use Rattle.proc_run.specs.Got.{as_made}
use Rattle.proc_run.specs.Path.{body_at}
use Rattle.proc_run.specs.Remains.{state, remains, waits, PhaseFits, StandInOrder}
use Rattle.proc_syntax.specs.Limits.{most_steps}

-- what a machine runs, the reads that were answered so far, with their rows, the read that is asked, and whether it reported that the run ended
pub record MachineView : Type 0 where
  pub app : App
  pub tx : Tx
  pub time : ℤ
  pub fed : List Made
  pub asks : Option Read
  pub ended : Bool

-- the read for whose rows a run waits
abbrev pub read_of : Phase → Option Read
read_of phase.Running = None
read_of (phase.Ask at asked) = Some asked.made.read
read_of (phase.Answered at asked) = None
read_of phase.Good = None
read_of (phase.Stopped why) = None

-- the read that was answered last, where its rows were not used yet
abbrev pub given_of : Phase → List Made
given_of phase.Running = []
given_of (phase.Ask at asked) = []
given_of (phase.Answered at asked) = as_made asked.made ∷ []
given_of phase.Good = []
given_of (phase.Stopped why) = []

-- how many reads are made or answered that are not on the list yet
abbrev pub held_of : Phase → ℕ
held_of phase.Running = 0
held_of (phase.Ask at asked) = 1
held_of (phase.Answered at asked) = 1
held_of phase.Good = 0
held_of (phase.Stopped why) = 0

-- what a machine tells
abbrev pub want_of : Phase → Want
want_of phase.Running = want.Ended
want_of (phase.Ask at asked) = want.Rows asked.made.read
want_of (phase.Answered at asked) = want.Ended
want_of phase.Good = want.Ended
want_of (phase.Stopped why) = want.Ended

-- reads that have the rows that they get of tables
abbrev pub Agrees : List TableDef → Tables → List Made → Type 0
Agrees declared tables fed = AllByRecursion (λ made. made.rows ≡ rows_in declared made.read tables) fed

-- what a caller sees of an answer of the machine: it asks from now on, or it has ended
abbrev pub Tells : Want → MachineView → MachineView → Type 0
Tells (want.Rows read) old new = new ≡ record old { asks = Some read; ended = false }
Tells want.Ended old new = new ≡ record old { ended = true }

-- it is the next of all reads of a run, or there is no other
abbrev pub IsNextWant : Want → List TableDef → Tables → List Made → List Made → Type 0
IsNextWant (want.Rows read) declared tables fed all = (more : List Made) × (all ≡ fed ++ record { read = read; rows = rows_in declared read tables } ∷ more)
IsNextWant want.Ended declared tables fed all = all ≡ fed

-- a read that is reported fits its table
abbrev pub WantFits : List TableDef → Want → Type 0
WantFits declared (want.Rows read) = ReadFitsIn declared read
WantFits declared want.Ended = Unit {0}

-- rows that were not used yet stand in order
abbrev pub GivenInOrder : List TableDef → Phase → Type 0
GivenInOrder declared phase = AllByRecursion (λ made. StandInOrder declared made.read made.rows) (given_of phase)

-- a call before its first step: what remains is its run, on any tables
pub record IsBegun (code : AppCode) (tx : Tx) (time : ℤ) (number : ℕ) (now : Phase) (going : Run) : Type 0 where
  pub comes : (declared : List TableDef) (tables : Tables)
      → meaning.ran declared tables (remains declared code.columns tables (body_at code number) now (Block 0 Whole 0 ∷ []) (state going)) ≡ code_run declared code tx time tables
  pub made : going.made.items ≡ []
  pub given : given_of now ≡ []
  pub held : held_of now ≡ 0
  pub steps : going.steps ≡ 0
  pub fits : (declared : List TableDef) → PhaseFits declared now
  pub found : (declared : List TableDef) (tables : Tables) → AreFound declared tables going.own

-- how a run stands once the rows of the last answer are used: what remains is what remained, and the answer is on the list
pub record IsResumed (declared : List TableDef) (before : Phase) (path : List Spot) (at : State) (after : Phase) (path_after : List Spot) (reached : State) : Type 0 where
  pub remains_so : (columns : List (List (Option ℕ))) (tables : Tables) (root : List Action)
      → remains declared columns tables root after path_after (record reached { made = reached.made ++ given_of before }) ≡ remains declared columns tables root before path at
  pub given : given_of after ≡ []
  pub held : held_of before ≡ 1
  pub fits : PhaseFits declared after

-- what is so of every machine: on any tables on which its answers agree, what remains of its run comes to the run
pub record IsSound (app : App) (tx : Tx) (time : ℤ) (number : ℕ) (now : Phase) (spots : List Spot) (going : Run) (told : Bool) : Type 0 where
  pub follows : (tables : Tables) → Agrees (tables_of app) tables (going.made.items ++ given_of now)
      → meaning.ran (tables_of app) tables (remains (tables_of app) (code_of app).columns tables (body_at (code_of app) number) now spots (state going)) ≡ meaning.run app tx time tables
  pub found : (tables : Tables) → Agrees (tables_of app) tables (going.made.items ++ given_of now) → AreFound (tables_of app) tables going.own
  pub steps : going.steps ≤ most_steps
  pub fits : PhaseFits (tables_of app) now
  pub order : GivenInOrder (tables_of app) now
  pub room : vec_len going.made + held_of now ≤ vec_capacity going.made
  pub waiting : told ≡ true → waits now ≡ true
