-- What stands in memory of the jobs, beside their rows.
use Rattle.node_core.specs.ById.{Indexes, ids_of}
use Rattle.node_core.specs.Rows.{count_held}
use Rattle.node_core.specs.Waiting.{BoundsHold}
use Rattle.node_core.specs.declared.bounds.WaitBounds.{WaitBounds}
use Rattle.node_core.specs.declared.index.JobIndex.{JobIndex}
use Rattle.node_core.specs.declared.jobs.JobRow.{JobRow}
use Rattle.std.specs.Prelude.{List, ◌≡◌, ℕ}

-- so many rows are held, bounds hold of those that wait, and an index is that of all
pub record IsTable (rows : List JobRow) (held : ℕ) (bounds : WaitBounds) (index : JobIndex) : Type 0 where
  pub count : held ≡ count_held rows
  pub waits : BoundsHold bounds rows
  pub by_id : Indexes index (ids_of rows)
