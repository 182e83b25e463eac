-- The node as its callers see it: its application and its journal. All else that they may know is the state that this journal comes to.
use Rattle.node_core.specs.InHand.{InHand, job_in}
use Rattle.node_model.specs.Fold.{results_of}
use Rattle.node_model.specs.History.{time_at}
use Rattle.node_model.specs.Journals.{world}
use Rattle.node_model.specs.Steps.{Answer, Ask, May, Shared, ToArrive, ToDeliver, reply}
use Rattle.node_model.specs.World.{Holds, World}
use Rattle.node_model.specs.declared.journal.Entry.{Entry}
use Rattle.node_model.specs.declared.journal.Event.{Event}
use Rattle.node_model.specs.declared.result.BlockResult.{BlockResult}
use Rattle.proc_syntax.specs.Declaring.{tables_of}
use Rattle.proc_syntax.specs.declared.call.Block.{Block}
use Rattle.proc_syntax.specs.declared.call.Tx.{Tx}
use Rattle.proc_syntax.specs.declared.tree.App.{App}
use Rattle.std.specs.Prelude.{List, None, Option, Some, [], ◌++◌, ◌≡◌, ◌∷◌, ℕ}

pub record Core : Type 0 where
  pub app : App
  pub journal : List Entry

-- the state of the node
abbrev pub world_of : Core → World
world_of core = world core.app core.journal

abbrev pub MayAsk : Core → ℕ → Ask → Type 0
MayAsk core actor ask = May core.app (world_of core) actor ask

-- ---- a call is a step

-- the entry of what an actor did, if it did anything
abbrev pub entries_for : ℕ → Option Event → List Entry
entries_for actor None = []
entries_for actor (Some event) = record { actor = actor; event = event } ∷ []

-- one step: its answer, and the node with its entry, if it has one
abbrev pub core_step : Core → ℕ → Ask → Answer × Core
core_step core actor ask = (
  (reply core.app (world_of core) ask).0,
  record { app = core.app; journal = core.journal ++ entries_for actor (reply core.app (world_of core) ask).1 },
)

abbrev pub Steps : Core → ℕ → Ask → Answer → Core → Type 0
Steps old actor ask answer new = (answer, new) ≡ core_step old actor ask

-- the step in which a transaction arrives that the node shares with its journal
pub record Arrives (old : Core) (actor : ℕ) (tx : Tx) (answer : Answer) (new : Core) : Type 0 where
  pub shared : Shared Tx
  pub same : shared.value ≡ tx
  pub step : Steps old actor (ToArrive shared) answer new

-- the step in which a block is delivered that the node shares with its journal
pub record Delivers (old : Core) (actor : ℕ) (block : Block) (answer : Answer) (new : Core) : Type 0 where
  pub shared : Shared Block
  pub same : shared.value ≡ block
  pub step : Steps old actor (ToDeliver shared) answer new

-- ---- held jobs

-- The job was claimed here and is held: its application is the node's, its row is held by its actor with its transaction and its record,
-- and its time is that of the block of its transaction's height.
pub record IsHeld (core : Core) (work : InHand) : Type 0 where
  pub app : work.told.app ≡ core.app
  pub holds : Holds (world_of core).jobs work.actor work.job (job_in work)
  pub time : work.told.time ≡ time_at work.told.tx.height (world_of core).sealed

-- ---- what is sealed

-- the results of the sealed blocks
abbrev pub results_in : Core → List BlockResult
results_in core = results_of (tables_of core.app) (world_of core).sealed
