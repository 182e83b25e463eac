-- One turn at a shared node.
use Rattle.node_core.specs.Core.{Core, Steps, entries_for}
use Rattle.node_model.specs.Journals.{IsLegal, world}
use Rattle.node_model.specs.Steps.{Answer, Ask, Shared, ToArrive, ToDeliver, reply}
use Rattle.node_model.specs.declared.journal.Entry.{Entry}
use Rattle.proc_syntax.specs.declared.call.Block.{Block}
use Rattle.proc_syntax.specs.declared.call.Tx.{Tx}
use Rattle.proc_syntax.specs.declared.tree.App.{App}
use Rattle.rel_base.specs.declared.storied.Storied.{Ghosts}
use Rattle.schedule_laws.specs.Stable.{entries_by}
use Rattle.std.specs.Prelude.{List, ◌++◌, ◌≡◌, ℕ}
use Rattle.turn_lock.specs.Passes.{mine, pass_base, pass_number, seen}
use Rattle.turn_lock.specs.declared.pass.Pass.{Pass}
use mathlib.Core.List.{IsPrefix}

-- The journal that a turn finds begins with what the pass had seen, and of the pass's number it has the entries that the pass made.
pub record IsFound (app : App) (number : ℕ) (seen mine journal : List Entry) : Type 0 where
  pub legal : IsLegal app journal
  pub later : IsPrefix seen journal
  pub own : entries_by number journal ≡ mine

module _ {ghosts : Ghosts Core App Entry} where
  -- the node as a pass has seen it
  abbrev pub node_seen : Pass Core App Entry ghosts → Core
  node_seen pass = record { app = pass_base pass; journal = seen pass }

  -- A turn that makes a step: its answer and its entry, if it has one, are those of the step in the journal that it found.
  pub record IsTurn (old new : Pass Core App Entry ghosts) (ask : Ask) (answer : Answer) : Type 0 where
    pub journal : List Entry
    pub found : IsFound (pass_base old) (pass_number old) (seen old) (mine old) journal
    pub step : Steps (record { app = pass_base old; journal = journal }) (pass_number old) ask answer (record { app = pass_base old; journal = seen new })
    pub own : mine new ≡ mine old ++ entries_for (pass_number old) (reply (pass_base old) (world (pass_base old) journal) ask).1
    pub legal : IsLegal (pass_base old) (seen new)

  -- a turn in which a transaction arrives that the node shares with its journal
  pub record IsArrival (old new : Pass Core App Entry ghosts) (tx : Tx) (answer : Answer) : Type 0 where
    pub shared : Shared Tx
    pub same : shared.value ≡ tx
    pub turn : IsTurn old new (ToArrive shared) answer

  -- a turn in which a block is delivered that the node shares with its journal
  pub record IsDelivery (old new : Pass Core App Entry ghosts) (block : Block) (answer : Answer) : Type 0 where
    pub shared : Shared Block
    pub same : shared.value ≡ block
    pub turn : IsTurn old new (ToDeliver shared) answer

  -- a turn that adds no entry: the pass has seen the journal that it found
  pub record IsLook (old new : Pass Core App Entry ghosts) : Type 0 where
    pub found : IsFound (pass_base old) (pass_number old) (seen old) (mine old) (seen new)
    pub same : mine new ≡ mine old
