-- What a node keeps of its jobs, as contracts see it: a row for each, with its transaction and how far it is.
use Rattle.node_core.specs.declared.jobs.JobRow.{JobRow}
use Rattle.node_core.specs.declared.jobs.Stage.TheVariants as stage
use Rattle.node_core.specs.declared.jobs.Stage.{Stage}
use Rattle.node_model.specs.Steps.{Shared}
use Rattle.node_model.specs.World.{Job, JobStatus, is_done, is_held, is_live, is_waiting, same_tx, unread}
use Rattle.node_model.specs.World as world
use Rattle.proc_syntax.specs.declared.call.Tx.{Tx}
use Rattle.std.specs.Prelude.{Bool, List, None, Option, Some, [], cond, false, map, nat_le, slice_get, suc, zero, ◌&&◌, ◌+◌, ◌||◌, ◌∷◌, ℕ}

-- ---- as a job of the definitions

abbrev pub status_of : Stage → JobStatus
status_of stage.Waiting = world.Waiting
status_of (stage.Held actor) = world.Held actor
status_of (stage.Done recorded) = world.Done
status_of stage.Taken = world.Done
status_of stage.Dropped = world.Dropped

-- the job of a row, without what is recorded of its run
abbrev pub shown : JobRow → Job
shown row = record { tx = row.tx.value; status = status_of row.stage; recorded = unread }

abbrev pub shown_all : List JobRow → List Job
shown_all rows = map shown rows

-- ---- rows by the numbers of their jobs, from 1

abbrev pub row_at : List JobRow → ℕ → Option JobRow
row_at rows zero = None
row_at rows (suc place) = slice_get rows place

-- whether a row is there and its job waits
abbrev pub row_waits : Option JobRow → Bool
row_waits None = false
row_waits (Some row) = is_waiting (status_of row.stage)

-- a row, with another stage
abbrev pub at_stage : Stage → JobRow → JobRow
at_stage now row = record { tx = row.tx; stage = now }

abbrev pub put_at : List JobRow → ℕ → Stage → List JobRow
put_at [] place now = []
put_at (row ∷ rows) zero now = at_stage now row ∷ rows
put_at (row ∷ rows) (suc place) now = row ∷ put_at rows place now

-- the rows, with another stage of one
abbrev pub put_row : List JobRow → ℕ → Stage → List JobRow
put_row rows zero now = rows
put_row rows (suc place) now = put_at rows place now

-- a job as it comes about
abbrev pub new_row : Shared Tx → JobRow
new_row tx = record { tx = tx; stage = stage.Waiting }

-- ---- jobs that are held

abbrev pub one_held : Stage → ℕ
one_held now = cond (is_held (status_of now)) 1 0

-- how many jobs are held
abbrev pub count_held : List JobRow → ℕ
count_held [] = 0
count_held (row ∷ rows) = one_held row.stage + count_held rows

-- ---- tests on rows

-- a job waits or is done
abbrev pub is_open : Stage → Bool
is_open now = is_waiting (status_of now) || is_done (status_of now)

abbrev pub row_is_for : Tx → JobRow → Bool
row_is_for tx row = is_live (status_of row.stage) && same_tx row.tx.value tx

abbrev pub row_is_eligible : ℕ → JobRow → Bool
row_is_eligible height row = is_waiting (status_of row.stage) && nat_le row.tx.value.height height

-- the numbers of the jobs that wait and whose tables are there, where the first row has a number
abbrev pub eligible_rows : ℕ → ℕ → List JobRow → List ℕ
eligible_rows number height [] = []
eligible_rows number height (row ∷ rows) =
    cond (row_is_eligible height row) (number ∷ eligible_rows (number + 1) height rows) (eligible_rows (number + 1) height rows)
