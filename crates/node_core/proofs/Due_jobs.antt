-- By what the first undecided transaction of the block in work is decided.
use Rattle.std.proofs.Common.{Bool, List, None, Option, Some, ap, false, inl, inr, refl, subst, sym, true, ◌∙◌, ◌≡◌, ◌⊎◌, ℕ}
use Rattle.std.proofs.lemmas.Bool.{and_parts, false≢true}
use Rattle.std.proofs.lemmas.Option.{none-some, same_Some}
use Rattle.std.specs.Option.{is_some}
use Rattle.block_work.specs.Causes.{early_by}
use Rattle.block_work.specs.Ids.{place_of_id}
use Rattle.block_work.specs.declared.ids.IdIndex.{IdIndex}
use Rattle.node_core.proofs.Claims.{HasNone, Numbered, numbered}
use Rattle.node_core.proofs.Rowed.{number_of_rows, row_of}
use Rattle.node_core.specs.Deciding.{IsDone}
use Rattle.node_core.specs.Due.{by_job, by_number, by_row, by_stage, by_tx, due_by, or_job}
use Rattle.node_core.specs.Kept.{IsNode, IsRowOf, IsStageOf, Kept, shown_work, told_in, world_in}
use Rattle.node_core.specs.Rows.{row_at, shown_all}
use Rattle.node_core.specs.declared.due.Due.TheVariants as stand
use Rattle.node_core.specs.declared.due.Due.{Due}
use Rattle.node_core.specs.declared.jobs.Record.{Record}
use Rattle.node_core.specs.declared.jobs.JobRow.{JobRow}
use Rattle.node_core.specs.declared.jobs.Stage.TheVariants as stage
use Rattle.node_core.specs.declared.jobs.Stage.{Stage}
use Rattle.node_core.specs.declared.delivered_block.DeliveredBlock.{DeliveredBlock}
use Rattle.node_model.specs.Events.{recorded_ran}
use Rattle.node_model.specs.World as model
use Rattle.node_model.specs.World.{Job, due, is_live, job_at, job_of, number_of_job, same_tx}
use Rattle.node_model.specs.declared.outcome.Outcome.{Outcome}
use Rattle.proc_syntax.specs.Declaring.{tables_of}
use Rattle.proc_syntax.specs.declared.call.Tx.{Tx}
use Rattle.proc_syntax.specs.declared.tree.App.{App}
use Rattle.schedule_laws.proofs.Lists.{job_of-is, same_tx-exact}

-- ---- what an answer says

-- it is decided without a run
pub record IsEarly (app : App) (ids : IdIndex) (working : DeliveredBlock) (cause : Outcome) : Type 0 where
  pub tx : Tx
  pub next : due (shown_work working) ≡ Some tx
  pub early : early_by (is_some (place_of_id ids tx.id)) app working.done.number tx ≡ Some cause

-- it is decided by the job of a number
pub record IsByJob (app : App) (ids : IdIndex) (working : DeliveredBlock) (rows : List JobRow) (number : ℕ) : Type 0 where
  pub tx : Tx
  pub next : due (shown_work working) ≡ Some tx
  pub late : early_by (is_some (place_of_id ids tx.id)) app working.done.number tx ≡ None
  pub numbered : number_of_job tx (shown_all rows) ≡ Some number
  pub row : JobRow
  pub stands : row_at rows number ≡ Some row
  pub recorded : Record
  pub done : row.stage ≡ stage.Done recorded

abbrev is_early : Due → Bool
is_early stand.Nothing = false
is_early (stand.Early cause) = true
is_early (stand.Waits holder) = false
is_early (stand.Done number) = false

abbrev is_by_job : Due → Bool
is_by_job stand.Nothing = false
is_by_job (stand.Early cause) = false
is_by_job (stand.Waits holder) = false
is_by_job (stand.Done number) = true

abbrev cause_in : Outcome → Due → Outcome
cause_in other stand.Nothing = other
cause_in other (stand.Early cause) = cause
cause_in other (stand.Waits holder) = other
cause_in other (stand.Done number) = other

abbrev number_in : ℕ → Due → ℕ
number_in other stand.Nothing = other
number_in other (stand.Early cause) = other
number_in other (stand.Waits holder) = other
number_in other (stand.Done number) = number

-- ---- a job

-- a stage is that of a done job
abbrev IsDoneStage : ℕ → ℕ → Stage → Type 0
IsDoneStage number at now = (recorded : Record) × (now ≡ stage.Done recorded) × (at ≡ number)

stage_of : (number at : ℕ) (now : Stage) → by_stage at now ≡ stand.Done number → IsDoneStage number at now
stage_of number at stage.Waiting is = absurd (false≢true (ap is_by_job is))
stage_of number at (stage.Held actor) is = absurd (false≢true (ap is_by_job is))
stage_of number at (stage.Done recorded) is = (recorded, refl, ap (number_in number) is)
stage_of number at stage.Taken is = absurd (false≢true (ap is_by_job is))
stage_of number at stage.Dropped is = absurd (false≢true (ap is_by_job is))

not_early_stage : (at : ℕ) (now : Stage) → is_early (by_stage at now) ≡ false
not_early_stage at stage.Waiting = refl
not_early_stage at (stage.Held actor) = refl
not_early_stage at (stage.Done recorded) = refl
not_early_stage at stage.Taken = refl
not_early_stage at stage.Dropped = refl

not_early_row : (at : ℕ) (found : Option JobRow) → is_early (by_row at found) ≡ false
not_early_row at None = refl
not_early_row at (Some row) = not_early_stage at row.stage

not_early : (rows : List JobRow) (found : Option ℕ) → is_early (by_number rows found) ≡ false
not_early rows None = refl
not_early rows (Some at) = not_early_row at (row_at rows at)

-- a row is that of a done job
abbrev IsDoneRow : List JobRow → ℕ → Type 0
IsDoneRow rows number = (row : JobRow) × (row_at rows number ≡ Some row) × ((recorded : Record) × (row.stage ≡ stage.Done recorded))

row_done : (rows : List JobRow) (number at : ℕ) (found : Option JobRow) → row_at rows at ≡ found → by_row at found ≡ stand.Done number → IsDoneRow rows number × (at ≡ number)
row_done rows number at None here is = absurd (false≢true (ap is_by_job is))
row_done rows number at (Some row) here is =
    let done : IsDoneStage number at row.stage = stage_of number at row.stage is in
    ((row, ap (row_at rows) (sym done.2) ∙ here, (done.0, done.1)), done.2)

number_done : (rows : List JobRow) (number : ℕ) (found : Option ℕ) → by_number rows found ≡ stand.Done number → IsDoneRow rows number × (found ≡ Some number)
number_done rows number None is = absurd (false≢true (ap is_by_job is))
number_done rows number (Some at) is = let row = row_done rows number at (row_at rows at) refl is in (row.0, ap (λ n. Some n) row.1)

-- ---- the two kinds

pub early_of : (app : App) (ids : IdIndex) (working : DeliveredBlock) (rows : List JobRow) (cause : Outcome) → due_by app ids working rows ≡ stand.Early cause → IsEarly app ids working cause
early_of app ids working rows cause is = by (due (shown_work working)) refl is
  where
    at_tx : (tx : Tx) → due (shown_work working) ≡ Some tx → (found : Option Outcome) → early_by (is_some (place_of_id ids tx.id)) app working.done.number tx ≡ found → or_job found (by_job tx rows) ≡ stand.Early cause
        → IsEarly app ids working cause
    at_tx tx next None early is = absurd (false≢true (sym (not_early rows (number_of_job tx (shown_all rows))) ∙ ap is_early is))
    at_tx tx next (Some found) early is = record { tx = tx; next = next; early = early ∙ ap (λ c. Some c) (ap (cause_in cause) is) }

    by : (found : Option Tx) → due (shown_work working) ≡ found → by_tx app ids working.done.number rows found ≡ stand.Early cause → IsEarly app ids working cause
    by None next is = absurd (false≢true (ap is_early is))
    by (Some tx) next is = at_tx tx next (early_by (is_some (place_of_id ids tx.id)) app working.done.number tx) refl is

pub by_job_of : (app : App) (ids : IdIndex) (working : DeliveredBlock) (rows : List JobRow) (number : ℕ) → due_by app ids working rows ≡ stand.Done number → IsByJob app ids working rows number
by_job_of app ids working rows number is = by (due (shown_work working)) refl is
  where
    at_tx : (tx : Tx) → due (shown_work working) ≡ Some tx → (found : Option Outcome) → early_by (is_some (place_of_id ids tx.id)) app working.done.number tx ≡ found → or_job found (by_job tx rows) ≡ stand.Done number
        → IsByJob app ids working rows number
    at_tx tx next None late is =
        let found = number_done rows number (number_of_job tx (shown_all rows)) is in
        record { tx = tx; next = next; late = late; numbered = found.1; row = found.0.0; stands = found.0.1; recorded = found.0.2.0; done = found.0.2.1 }
    at_tx tx next (Some cause) late is = absurd (false≢true (ap is_by_job is))

    by : (found : Option Tx) → due (shown_work working) ≡ found → by_tx app ids working.done.number rows found ≡ stand.Done number → IsByJob app ids working rows number
    by None next is = absurd (false≢true (ap is_by_job is))
    by (Some tx) next is = at_tx tx next (early_by (is_some (place_of_id ids tx.id)) app working.done.number tx) refl is

-- ---- the job in the definitions

-- a job is that of a transaction and of a row, by its number
pub record IsJobOf (kept : Kept) (tx : Tx) (row : JobRow) (number : ℕ) (job : Job) : Type 0 where
  pub is : job_of tx (world_in kept).jobs ≡ Some job
  pub stands : job_at (world_in kept).jobs number ≡ Some job
  pub same : job.tx ≡ tx
  pub rowed : IsRowOf (tables_of kept.app) (told_in kept.work) row job

module _ (kept : Kept) (node : IsNode kept) (working : DeliveredBlock) (number : ℕ) (found : IsByJob kept.app kept.ids working kept.rows number) where
  pub its_job : (job : Job) × IsJobOf kept found.tx found.row number job
  its_job = by (numbered found.tx (world_in kept).jobs)
    where
      counted : number_of_job found.tx (world_in kept).jobs ≡ Some number
      counted = sym (number_of_rows (tables_of kept.app) (told_in kept.work) found.tx kept.rows (world_in kept).jobs node.rows) ∙ found.numbered

      at : (job : Job) → job_of found.tx (world_in kept).jobs ≡ Some job → job_at (world_in kept).jobs number ≡ Some job → (job : Job) × IsJobOf kept found.tx found.row number job
      at job is stands =
          let there = row_of (tables_of kept.app) (told_in kept.work) kept.rows (world_in kept).jobs number job stands node.rows in (
            job,
            record {
              is = is;
              stands = stands;
              same = same_tx-exact job.tx found.tx (and_parts (is_live job.status) (same_tx job.tx found.tx) (job_of-is found.tx (world_in kept).jobs job is)).1;
              rowed = subst (λ (row : JobRow). IsRowOf (tables_of kept.app) (told_in kept.work) row job) (same_Some there.0 found.row (sym there.1 ∙ found.stands)) there.2;
            },
          )

      by : HasNone found.tx (world_in kept).jobs ⊎ Numbered found.tx (world_in kept).jobs → (job : Job) × IsJobOf kept found.tx found.row number job
      by (inl none) = absurd (none-some number (sym none.0 ∙ counted))
      by (inr one) = at one.job one.is (ap (job_at (world_in kept).jobs) (sym (same_Some one.number number (sym one.numbered ∙ counted))) ∙ one.stands)

  pub its_stage : IsStageOf (tables_of kept.app) (told_in kept.work) (stage.Done found.recorded) its_job.0
  its_stage = subst (λ (now : Stage). IsStageOf (tables_of kept.app) (told_in kept.work) now its_job.0) found.done its_job.1.rowed.stage

  -- what is recorded of it can be judged
  abbrev pub is_done : IsDone (tables_of kept.app) kept.rows number
  is_done = record { row = found.row; recorded = found.recorded; stands = found.stands; done = found.done; fits = its_stage.2 }

  pub row_tx : found.row.tx.value ≡ found.tx
  row_tx = its_job.1.rowed.tx ∙ its_job.1.same

  pub ran_is : recorded_ran (job_of found.tx (world_in kept).jobs) ≡ found.recorded.ran
  ran_is = ap recorded_ran its_job.1.is ∙ sym (ap (λ (r : model.Record). r.ran) its_stage.1)
