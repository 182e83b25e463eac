-- How the first undecided transaction of the block in work stands, by what a node keeps.
use Rattle.block_work.specs.Causes.{IsCause, early_by}
use Rattle.block_work.specs.Ids.{place_of_id}
use Rattle.block_work.specs.declared.ids.IdIndex.{IdIndex}
use Rattle.node_core.specs.Kept.{shown_work}
use Rattle.node_core.specs.Rows.{row_at, shown_all}
use Rattle.node_core.specs.declared.due.Due.TheVariants as due
use Rattle.node_core.specs.declared.due.Due.{Due}
use Rattle.node_core.specs.declared.jobs.JobRow.{JobRow}
use Rattle.node_core.specs.declared.jobs.Stage.TheVariants as stage
use Rattle.node_core.specs.declared.jobs.Stage.{Stage}
use Rattle.node_core.specs.declared.delivered_block.DeliveredBlock.{DeliveredBlock}
use Rattle.node_model.specs.World as world
use Rattle.node_model.specs.World.{number_of_job}
use Rattle.node_model.specs.declared.outcome.Outcome.{Outcome}
use Rattle.proc_syntax.specs.declared.call.Tx.{Tx}
use Rattle.proc_syntax.specs.declared.tree.App.{App}
use Rattle.std.specs.Option.{is_some}
use Rattle.std.specs.Prelude.{List, None, Option, Some, ℕ}

abbrev pub by_stage : ℕ → Stage → Due
by_stage number stage.Waiting = due.Waits None
by_stage number (stage.Held actor) = due.Waits (Some actor)
by_stage number (stage.Done recorded) = due.Done number
by_stage number stage.Taken = due.Waits None
by_stage number stage.Dropped = due.Waits None

abbrev pub by_row : ℕ → Option JobRow → Due
by_row number None = due.Waits None
by_row number (Some row) = by_stage number row.stage

abbrev pub by_number : List JobRow → Option ℕ → Due
by_number rows None = due.Waits None
by_number rows (Some number) = by_row number (row_at rows number)

-- by the job of a transaction
abbrev pub by_job : Tx → List JobRow → Due
by_job tx rows = by_number rows (number_of_job tx (shown_all rows))

abbrev pub or_job : Option Outcome → Due → Due
or_job None job = job
or_job (Some cause) job = due.Early cause

abbrev pub by_tx : App → IdIndex → ℕ → List JobRow → Option Tx → Due
by_tx app ids number rows None = due.Nothing
by_tx app ids number rows (Some tx) = or_job (early_by (is_some (place_of_id ids tx.id)) app number tx) (by_job tx rows)

-- of the block in work
abbrev pub due_by : App → IdIndex → DeliveredBlock → List JobRow → Due
due_by app ids working rows = by_tx app ids working.done.number rows (world.due (shown_work working))

-- an early cause is one of an abort
abbrev pub AbortsSo : Due → Type 0
AbortsSo due.Nothing = Unit {0}
AbortsSo (due.Early cause) = IsCause cause
AbortsSo (due.Waits holder) = Unit {0}
AbortsSo (due.Done number) = Unit {0}
