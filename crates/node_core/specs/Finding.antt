-- The outcome of an id, by what a node keeps.
use Rattle.block_work.specs.Ids.{place_of_id}
use Rattle.block_work.specs.declared.ids.IdIndex.{IdIndex}
use Rattle.node_core.specs.Kept.{outcomes_of}
use Rattle.node_core.specs.declared.delivered_block.DeliveredBlock.{DeliveredBlock}
use Rattle.node_model.specs.declared.outcome.Outcome.{Outcome}
use Rattle.node_model.specs.declared.result.BlockResult.{BlockResult}
use Rattle.node_model.specs.declared.result.Told.{Told}
use Rattle.rel_base.specs.declared.access.Place.{Place}
use Rattle.std.specs.Option.{option_and_then, option_map}
use Rattle.std.specs.Prelude.{List, None, Option, Some, slice_get, suc, zero, ℕ}

-- the item at a position, counted from 1
abbrev pub item_at : {X : Type 0} → List X → ℕ → Option X
item_at items zero = None
item_at items (suc place) = slice_get items place

-- the outcomes of a sealed block, or else of the block in work
abbrev pub outcomes_at : Option BlockResult → Option DeliveredBlock → List Told
outcomes_at None work = outcomes_of work
outcomes_at (Some block) work = block.outcomes

-- what is reported at a place
abbrev pub told_at : List BlockResult → Option DeliveredBlock → Place → Option Told
told_at blocks work place = item_at (outcomes_at (item_at blocks place.block) work) place.pos

-- the outcome at the place that an index has for an id
abbrev pub outcome_by : IdIndex → List BlockResult → Option DeliveredBlock → List ℕ → Option Outcome
outcome_by ids blocks work id = option_map (λ (one : Told). one.outcome) (option_and_then (told_at blocks work) (place_of_id ids id))
