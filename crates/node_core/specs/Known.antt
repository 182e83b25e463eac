-- What a node tells of an arrival by what it keeps.
use Rattle.block_work.specs.Ids.{place_of_id}
use Rattle.block_work.specs.declared.ids.IdIndex.{IdIndex}
use Rattle.node_core.specs.Kept.{up_to}
use Rattle.node_core.specs.Rows.{shown_all}
use Rattle.node_core.specs.declared.answers.Arrived.TheVariants as arrived
use Rattle.node_core.specs.declared.answers.Arrived.{Arrived}
use Rattle.node_core.specs.declared.jobs.JobRow.{JobRow}
use Rattle.node_core.specs.declared.delivered_block.DeliveredBlock.{DeliveredBlock}
use Rattle.node_model.specs.World.{number_of_job}
use Rattle.proc_syntax.specs.Call.{call_fault}
use Rattle.proc_syntax.specs.declared.call.Tx.{Tx}
use Rattle.proc_syntax.specs.declared.tree.App.{App}
use Rattle.std.specs.List.{list_any}
use Rattle.std.specs.Option.{is_some}
use Rattle.std.specs.Prelude.{Bool, List, None, Option, Some, cond, false, map, ◌||◌, ℕ}
use Rattle.std.specs.Str.{bytes_eq}

-- the id stands in the block in work
abbrev pub is_in_block : List ℕ → Option DeliveredBlock → Bool
is_in_block id None = false
is_in_block id (Some working) = list_any (bytes_eq id) (map (λ tx. tx.id) working.block.value.txs)

abbrev pub arrival : App → List JobRow → IdIndex → ℕ → Option DeliveredBlock → Tx → Arrived
arrival app rows ids height work tx =
    cond (is_some (call_fault app tx)) arrived.Invalid
    (cond (is_some (number_of_job tx (shown_all rows)) || (is_some (up_to height (place_of_id ids tx.id)) || is_in_block tx.id work)) arrived.Known arrived.Queued)
