-- Which job is due, by what a node keeps.
use Rattle.block_work.specs.Causes.{early_by}
use Rattle.block_work.specs.Ids.{place_of_id}
use Rattle.block_work.specs.declared.ids.IdIndex.{IdIndex}
use Rattle.node_core.specs.Kept.{shown_work}
use Rattle.node_core.specs.Rows.{row_at, row_waits, shown_all}
use Rattle.node_core.specs.declared.jobs.JobRow.{JobRow}
use Rattle.node_core.specs.declared.delivered_block.DeliveredBlock.{DeliveredBlock}
use Rattle.node_model.specs.World.{due, number_of_job}
use Rattle.proc_syntax.specs.declared.call.Tx.{Tx}
use Rattle.proc_syntax.specs.declared.tree.App.{App}
use Rattle.std.specs.Option.{is_some}
use Rattle.std.specs.Prelude.{List, None, Option, Some, cond, ℕ}

abbrev pub if_waiting : List JobRow → Option ℕ → Option ℕ
if_waiting rows None = None
if_waiting rows (Some number) = cond (row_waits (row_at rows number)) (Some number) None

-- the number of a transaction's job, where that waits
abbrev pub waiting_in : Tx → List JobRow → Option ℕ
waiting_in tx rows = if_waiting rows (number_of_job tx (shown_all rows))

abbrev pub due_of : App → IdIndex → ℕ → List JobRow → Option Tx → Option ℕ
due_of app ids number rows None = None
due_of app ids number rows (Some tx) = cond (is_some (early_by (is_some (place_of_id ids tx.id)) app number tx)) None (waiting_in tx rows)

-- the number of the job of the first undecided transaction of a block in work, where that has no cause that is known without a run and its
-- job waits
abbrev pub due_in : App → IdIndex → Option DeliveredBlock → List JobRow → Option ℕ
due_in app ids None rows = None
due_in app ids (Some working) rows = due_of app ids working.done.number rows (due (shown_work working))
