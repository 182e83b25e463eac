-- Bounds on the jobs that wait.
use Rattle.node_core.specs.Rows.{status_of}
use Rattle.node_core.specs.declared.bounds.WaitBounds.{WaitBounds}
use Rattle.node_core.specs.declared.jobs.JobRow.{JobRow}
use Rattle.node_model.specs.World.{is_waiting}
use Rattle.std.specs.Prelude.{List, [], cond, length, suc, take, true, ◌<◌, ◌≡◌, ◌≤◌, ◌∷◌, ℕ}

-- how many of the first rows do not wait, up to the first one that waits
abbrev pub leading_quiet : List JobRow → ℕ
leading_quiet [] = 0
leading_quiet (row ∷ rows) = cond (is_waiting (status_of row.stage)) 0 (suc (leading_quiet rows))

-- a row, where it waits, is above a height
abbrev pub WaitsAbove : ℕ → JobRow → Type 0
WaitsAbove height row = is_waiting (status_of row.stage) ≡ true → height < row.tx.value.height

-- each row that waits is above a height
abbrev pub WaitAbove : ℕ → List JobRow → Type 0
WaitAbove height [] = Unit {0}
WaitAbove height (row ∷ rows) = WaitsAbove height row × WaitAbove height rows

-- bounds hold of some rows
pub record BoundsHold (bounds : WaitBounds) (rows : List JobRow) : Type 0 where
  pub quiet : bounds.quiet ≤ leading_quiet rows
  pub within : bounds.passed ≤ length rows
  pub above : WaitAbove bounds.above (take bounds.passed rows)
