-- What the entries of others leave to an actor.
use Rattle.node_model.specs.Decide.{run_at}
use Rattle.node_model.specs.History.{SealedBlock, snapshot, time_at}
use Rattle.node_model.specs.World.{Holds, Job, World}
use Rattle.node_model.specs.declared.journal.Entry.{Entry}
use Rattle.proc_syntax.specs.declared.call.Tx.{Tx}
use Rattle.proc_syntax.specs.declared.tree.App.{App}
use Rattle.rel_base.specs.Stories.{entries_of}
use Rattle.std.specs.Prelude.{List, length, ◌++◌, ◌↔◌, ◌≡◌, ◌≤◌, ℕ}

-- the entries of an actor
abbrev pub entries_by : ℕ → List Entry → List Entry
entries_by actor entries = entries_of (λ entry. entry.actor) actor entries

-- an actor holds the same jobs, each with the same record
abbrev pub HoldsSame : ℕ → List Job → List Job → Type 0
HoldsSame actor jobs later = (number : ℕ) (job : Job) → Holds jobs actor number job ↔ Holds later actor number job

-- what a height showed it shows still: tables, time, and the run of a call
pub record ShowsSame (app : App) (sealed later : List SealedBlock) : Type 0 where
  pub tables : (height : ℕ) → height ≤ length sealed → snapshot height later ≡ snapshot height sealed
  pub times : (height : ℕ) → height ≤ length sealed → time_at height later ≡ time_at height sealed
  pub runs : (tx : Tx) → tx.height ≤ length sealed → run_at app later tx ≡ run_at app sealed tx

-- a later state, in which an actor finds its own as it left it
pub record IsLater (app : App) (actor : ℕ) (w later : World) : Type 0 where
  pub held : HoldsSame actor w.jobs later.jobs
  pub more : List SealedBlock
  pub sealed : later.sealed ≡ w.sealed ++ more
  pub shows : ShowsSame app w.sealed later.sealed
  -- what actor 0 alone changes
  pub own_sealed : actor ≡ 0 → later.sealed ≡ w.sealed
  pub own_work : actor ≡ 0 → later.work ≡ w.work
