-- The text of a change of a node's state.
use Rattle.std.specs.Prelude.{ℕ, List, ◌++◌, codes, decimal}
use Rattle.node_model.specs.declared.journal.Event.{Event}
use Rattle.node_model.specs.declared.journal.Event.TheVariants as event

-- its word, and what it speaks of: a job by its number, a block by its number, a transaction of the block in work by its position
abbrev pub event_text : Event → List ℕ
event_text (event.Arrive job tx) = codes "arrive " ++ decimal job ++ codes " " ++ tx.value.id
event_text (event.Claim job) = codes "claim " ++ decimal job
event_text (event.Read job) = codes "read " ++ decimal job
event_text (event.Finish job) = codes "finish " ++ decimal job
event_text (event.Release job) = codes "release " ++ decimal job
event_text (event.Deliver block) = codes "deliver " ++ decimal block.value.number
event_text (event.Commit pos) = codes "commit " ++ decimal pos
event_text (event.Seal number) = codes "seal " ++ decimal number
