-- A node and what it tells, whatever place in memory has what its journal shares.
use Rattle.node_core.specs.Core.{Core, world_of}
use Rattle.node_model.specs.Steps.{Ask}
use Rattle.node_model.specs.World.{World}
use Rattle.node_model.specs.declared.journal.Entry.{Entry}
use Rattle.node_model.specs.declared.journal.Event.TheVariants.{Arrive, Claim, Commit, Deliver, Finish, Read, Release, Seal}
use Rattle.node_model.specs.declared.journal.Event.{Event}
use Rattle.node_model.specs.declared.result.NodeResult.{NodeResult}
use Rattle.proc_syntax.specs.declared.call.Block.{Block}
use Rattle.proc_syntax.specs.declared.call.Tx.{Tx}
use Rattle.schedule_sim.specs.Running.{Given, after_ask, shared}
use Rattle.schedule_sim.specs.declared.simulation.SimFault.TheVariants as fault
use Rattle.schedule_sim.specs.declared.simulation.SimFault.{SimFault}
use Rattle.std.specs.Prelude.{Err, List, Ok, Option, Result, map, ◌≡◌, ℕ}

abbrev pub bare_event : Event → Event
bare_event (Arrive number tx) = Arrive number (shared tx.value)
bare_event (Claim number) = Claim number
bare_event (Read number) = Read number
bare_event (Finish number) = Finish number
bare_event (Release number) = Release number
bare_event (Deliver block) = Deliver (shared block.value)
bare_event (Commit pos) = Commit pos
bare_event (Seal number) = Seal number

abbrev pub bare_entry : Entry → Entry
bare_entry entry = record { actor = entry.actor; event = bare_event entry.event }

abbrev pub bare_journal : List Entry → List Entry
bare_journal journal = map bare_entry journal

abbrev pub bare_world : World → World
bare_world w = record w { journal = bare_journal w.journal }

-- the state of a node
abbrev pub state_of : Core → World
state_of core = bare_world (world_of core)

-- an actor asked something of a node, if anything, and the node took that step
pub record Takes (old : Core) (actor : ℕ) (asked : Option Ask) (new : Core) : Type 0 where
  pub app : new.app ≡ old.app
  pub state : state_of new ≡ after_ask old.app (state_of old) actor asked

-- what a schedule runs over on a node
abbrev pub given_in : Core → List Block → List Tx → Given
given_in core blocks arrivals = record { app = core.app; blocks = blocks; arrivals = arrivals }

-- what a node tells is what is meant, or it falls short as is meant, unless memory ran out
abbrev pub Tells : Result NodeResult SimFault → Result NodeResult ℕ → Type 0
Tells (Ok made) meant = meant ≡ Ok (record made { journal = bare_journal made.journal })
Tells (Err fault.NoMemory) meant = Unit {0}
Tells (Err (fault.Short sealed)) meant = meant ≡ Err sealed
