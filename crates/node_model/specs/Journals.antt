-- The state that a journal comes to, and the journals that steps can make.
use Rattle.node_model.specs.Events.{after}
use Rattle.node_model.specs.Steps.{Ask, May, reply}
use Rattle.node_model.specs.World.{World, empty}
use Rattle.node_model.specs.declared.journal.Entry.{Entry}
use Rattle.node_model.specs.declared.journal.Event.TheVariants.{Arrive, Claim, Commit, Deliver, Finish, Read, Release, Seal}
use Rattle.node_model.specs.declared.journal.Event.{Event}
use Rattle.proc_syntax.specs.declared.call.Block.{Block}
use Rattle.proc_syntax.specs.declared.tree.App.{App}
use Rattle.std.specs.Prelude.{List, Some, [], ◌++◌, ◌≡◌, ◌∷◌}

abbrev pub world_from : App → World → List Entry → World
world_from app w [] = w
world_from app w (entry ∷ entries) = world_from app (after app w entry) entries

-- the state that the entries of a journal come to, from the empty one
abbrev pub world : App → List Entry → World
world app journal = world_from app empty journal

-- an entry tells of something that its actor might ask, and of the event that came of it
pub record IsStep (app : App) (w : World) (entry : Entry) : Type 0 where
  pub ask : Ask
  pub may : May app w entry.actor ask
  pub told : (reply app w ask).1 ≡ Some entry.event

abbrev pub IsLegalFrom : App → World → List Entry → Type 0
IsLegalFrom app w [] = Unit {0}
IsLegalFrom app w (entry ∷ entries) = IsStep app w entry × IsLegalFrom app (after app w entry) entries

-- each entry of the journal is a step, in the state that those before it come to
abbrev pub IsLegal : App → List Entry → Type 0
IsLegal app journal = IsLegalFrom app empty journal

-- ---- the blocks of a journal

abbrev pub delivery : Event → List Block
delivery (Arrive number tx) = []
delivery (Claim number) = []
delivery (Read number) = []
delivery (Finish number) = []
delivery (Release number) = []
delivery (Deliver block) = block.value ∷ []
delivery (Commit pos) = []
delivery (Seal number) = []

-- the blocks that were delivered, in order
abbrev pub delivered : List Entry → List Block
delivered [] = []
delivered (entry ∷ entries) = delivery entry.event ++ delivered entries
