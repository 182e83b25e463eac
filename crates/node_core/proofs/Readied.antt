-- A transaction of the block in work is decided once its room is taken and its id is noted.
use Rattle.std.proofs.Common.{Bool, List, Some, ap, length, refl, subst, sym, ◌+◌, ◌-◌, ◌∙◌, ◌≡◌, ℕ}
use Rattle.std.proofs.lemmas.Option.{same_Some}
use Rattle.std.specs.Option.{option_map}
use Rattle.block_work.specs.Block.{IsConsistent, IsSameWork, work_of, work_with}
use Rattle.block_work.specs.Causes.{IsVerdictOn, outcome_of}
use Rattle.block_work.specs.Ids.{AddsPlace}
use Rattle.block_work.specs.declared.block.BlockInWork.{BlockInWork}
use Rattle.block_work.specs.declared.ids.IdIndex.{IdIndex}
use Rattle.block_work.specs.declared.verdict.Verdict.{Verdict}
use Rattle.node_core.specs.Deciding.{CanBeAdded, IsDecided, IsDone, outcome_by}
use Rattle.node_core.specs.Kept.{shown_work}
use Rattle.node_core.specs.Rows.{row_at}
use Rattle.node_core.specs.declared.jobs.Record.{Record}
use Rattle.node_core.specs.declared.jobs.JobRow.{JobRow}
use Rattle.node_core.specs.declared.jobs.Stage.TheVariants as stage
use Rattle.node_core.specs.declared.jobs.Stage.{Stage}
use Rattle.node_core.specs.declared.delivered_block.DeliveredBlock.{DeliveredBlock}
use Rattle.node_model.specs.Decide.{by_run, or_committed}
use Rattle.node_model.specs.Fold.{Work}
use Rattle.node_model.specs.World.{due}
use Rattle.node_model.specs.declared.outcome.Outcome.{Outcome}
use Rattle.node_model.specs.declared.result.Committed.{Committed}
use Rattle.node_model.specs.declared.result.Told.{Told}
use Rattle.proc_syntax.specs.declared.call.Tx.{Tx}
use Rattle.proc_syntax.specs.declared.run.Ran.{Ran}
use Rattle.rel_base.specs.Tables.{Stamped, writes_between}
use Rattle.rel_base.specs.declared.schema.TableDef.{TableDef}

abbrev work_as : List Told → List Committed → Work
work_as outcomes committed = record { outcomes = outcomes; committed = committed }

pub same_itself : (work : BlockInWork) → IsSameWork work work
same_itself work = record { number = refl; time = refl; outcomes = refl; committed = refl }

-- ---- what is recorded of a done job

abbrev record_in : Record → Stage → Record
record_in other stage.Waiting = other
record_in other (stage.Held actor) = other
record_in other (stage.Done recorded) = recorded
record_in other stage.Taken = other
record_in other stage.Dropped = other

module _ (tables : List TableDef) (rows : List JobRow) (number : ℕ) (done : IsDone tables rows number) where
  pub done_there : option_map (λ (row : JobRow). row.stage) (row_at rows number) ≡ Some (stage.Done done.recorded)
  done_there = ap (option_map (λ (row : JobRow). row.stage)) done.stands ∙ ap (λ (now : Stage). Some now) done.done

  pub recorded_is : (recorded : Record) → option_map (λ (row : JobRow). row.stage) (row_at rows number) ≡ Some (stage.Done recorded) → recorded ≡ done.recorded
  recorded_is recorded there = ap (record_in done.recorded) (same_Some (stage.Done recorded) (stage.Done done.recorded) (sym there ∙ done_there))

  pub row_is : (row : JobRow) → row_at rows number ≡ Some row → row ≡ done.row
  row_is row there = same_Some row done.row (sym there ∙ done.stands)

  -- the outcome by its run, where that is read from the table
  pub judged_as : (exact : Bool) (history : List Stamped) (work : BlockInWork) (row : JobRow) (recorded : Record) (height : ℕ) → row_at rows number ≡ Some row → row.stage ≡ stage.Done recorded → height ≡ row.tx.value.height
      → or_committed (by_run exact tables (writes_between height (work.number - 1) history) work.committed.items recorded.ran) ≡ outcome_by exact tables history work rows done
  judged_as exact history work row recorded height there stands at =
      ap (λ h. or_committed (by_run exact tables (writes_between h (work.number - 1) history) work.committed.items recorded.ran)) (at ∙ ap (λ (r : JobRow). r.tx.value.height) (row_is row there))
      ∙ ap (λ (one : Record). or_committed (by_run exact tables (writes_between done.row.tx.value.height (work.number - 1) history) work.committed.items one.ran))
      (recorded_is recorded (ap (option_map (λ (r : JobRow). r.stage)) there ∙ ap (λ (now : Stage). Some now) stands))

-- ---- the room is taken and the id noted

module _ (old made : DeliveredBlock) (before after : IdIndex) (id : List ℕ) (same : IsSameWork old.done made.done) (block : made.block ≡ old.block) (has : option_map (λ (tx : Tx). tx.id) (due (shown_work old)) ≡ Some id)
    (adds : AddsPlace before after id (record { block = old.done.number; pos = length old.done.outcomes.items + 1 })) where
  same_work : work_of made.done ≡ work_of old.done
  same_work = ap (λ (told : List Told). work_as told made.done.committed.items) same.outcomes ∙ ap (λ (committed : List Committed). work_as old.done.outcomes.items committed) same.committed

  pub decided_from : (new : DeliveredBlock) (ran : Ran) (found : Outcome) → new.block ≡ made.block → new.done.number ≡ made.done.number → new.done.time ≡ made.done.time
      → work_of new.done ≡ work_with (work_of made.done) id ran found → (tx : Tx) → due (shown_work old) ≡ Some tx → IsDecided old new before after tx ran found
  decided_from new ran found same_block number time work tx next =
      let its : id ≡ tx.id = same_Some id tx.id (sym has ∙ ap (option_map (λ (tx : Tx). tx.id)) next) in
      record {
        first = next;
        block = same_block ∙ block;
        number = number ∙ same.number;
        time = time ∙ same.time;
        work = work ∙ ap (λ (w : Work). work_with w id ran found) same_work ∙ ap (λ (i : List ℕ). work_with (work_of old.done) i ran found) its;
        place = subst (λ (i : List ℕ). AddsPlace before after i (record { block = old.done.number; pos = length old.done.outcomes.items + 1 })) its adds;
      }

-- ---- by what is recorded of a done job

module _ (exact : Bool) (tables : List TableDef) (history : List Stamped) (rows : List JobRow) (number : ℕ) (old made : DeliveredBlock) (verdict : Verdict) (same : IsSameWork old.done made.done) (consistent : IsConsistent tables made.done)
    (judged : (done : IsDone tables rows number) → outcome_of verdict ≡ outcome_by exact tables history old.done rows done)
    (sound : (done : IsDone tables rows number) → IsVerdictOn tables old.done.committed.items done.recorded.ran verdict) (recorded : Record)
    (there : option_map (λ (row : JobRow). row.stage) (row_at rows number) ≡ Some (stage.Done recorded)) where
  pub can_add : IsDone tables rows number → CanBeAdded tables made.done recorded.ran verdict
  can_add done = subst (λ (one : Record). CanBeAdded tables made.done one.ran verdict) (sym (recorded_is tables rows number done recorded there)) (record {
    consistent = consistent;
    fits = done.fits;
    sound = subst (λ (committed : List Committed). IsVerdictOn tables committed done.recorded.ran verdict) (sym same.committed) (sound done);
  })

  pub decided_by : (new : DeliveredBlock) (before after : IdIndex) (tx : Tx) → IsDecided old new before after tx recorded.ran (outcome_of verdict) → (done : IsDone tables rows number)
      → IsDecided old new before after tx done.recorded.ran (outcome_by exact tables history old.done rows done)
  decided_by new before after tx decided done =
      subst (λ (one : Record). IsDecided old new before after tx one.ran (outcome_by exact tables history old.done rows done)) (recorded_is tables rows number done recorded there)
      (subst (λ (found : Outcome). IsDecided old new before after tx recorded.ran found) (judged done) decided)
