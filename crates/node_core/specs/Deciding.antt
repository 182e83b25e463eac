-- What it is that a transaction of the block in work is decided.
use Rattle.block_work.specs.Block.{IsConsistent, work_of, work_with}
use Rattle.block_work.specs.Causes.{IsVerdictOn, RunFits}
use Rattle.block_work.specs.Ids.{AddsPlace}
use Rattle.block_work.specs.declared.block.BlockInWork.{BlockInWork}
use Rattle.block_work.specs.declared.ids.IdIndex.{IdIndex}
use Rattle.block_work.specs.declared.verdict.Verdict.{Verdict}
use Rattle.node_core.specs.Kept.{shown_work}
use Rattle.node_core.specs.Rows.{row_at}
use Rattle.node_core.specs.declared.jobs.Record.{Record}
use Rattle.node_core.specs.declared.jobs.JobRow.{JobRow}
use Rattle.node_core.specs.declared.jobs.Stage.TheVariants.{Done}
use Rattle.node_core.specs.declared.delivered_block.DeliveredBlock.{DeliveredBlock}
use Rattle.node_model.specs.Decide.{by_run, or_committed}
use Rattle.node_model.specs.World.{due}
use Rattle.node_model.specs.declared.outcome.Outcome.{Outcome}
use Rattle.proc_syntax.specs.declared.call.Tx.{Tx}
use Rattle.proc_syntax.specs.declared.run.Ran.{Ran}
use Rattle.rel_base.specs.Tables.{Stamped, writes_between}
use Rattle.rel_base.specs.declared.schema.TableDef.{TableDef}
use Rattle.std.specs.Prelude.{Bool, List, Some, length, ◌+◌, ◌-◌, ◌≡◌, ℕ}

-- a verdict on a run can be added to a block in work
pub record CanBeAdded (tables : List TableDef) (work : BlockInWork) (ran : Ran) (verdict : Verdict) : Type 0 where
  pub consistent : IsConsistent tables work
  pub fits : RunFits tables ran
  pub sound : IsVerdictOn tables work.committed.items ran verdict

-- the job of a number is done, and what is recorded of its run can be judged
pub record IsDone (tables : List TableDef) (rows : List JobRow) (number : ℕ) : Type 0 where
  pub row : JobRow
  pub recorded : Record
  pub stands : row_at rows number ≡ Some row
  pub done : row.stage ≡ Done recorded
  pub fits : RunFits tables recorded.ran

-- the outcome of a transaction of a block in work by what is recorded of its job's run, on a history
abbrev pub outcome_by : {number : ℕ} → Bool → (tables : List TableDef) → List Stamped → BlockInWork → (rows : List JobRow) → IsDone tables rows number → Outcome
outcome_by exact tables history work rows done =
    or_committed (by_run exact tables (writes_between done.row.tx.value.height (work.number - 1) history) work.committed.items done.recorded.ran)

-- the first undecided transaction of a block in work was decided with an outcome, by a run, and its id was noted
pub record IsDecided (old new : DeliveredBlock) (before after : IdIndex) (tx : Tx) (ran : Ran) (found : Outcome) : Type 0 where
  pub first : due (shown_work old) ≡ Some tx
  pub block : new.block ≡ old.block
  pub number : new.done.number ≡ old.done.number
  pub time : new.done.time ≡ old.done.time
  pub work : work_of new.done ≡ work_with (work_of old.done) tx.id ran found
  pub place : AddsPlace before after tx.id (record { block = old.done.number; pos = length old.done.outcomes.items + 1 })
