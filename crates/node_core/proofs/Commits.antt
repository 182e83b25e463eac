-- What a commit answers, by what a node keeps.
use Rattle.std.proofs.Common.{Bool, List, None, Option, Some, [], ap, cond, false, inl, inr, length, refl, subst, suc, sym, true, zero, ◌+◌, ◌++◌, ◌∙◌, ◌≡◌, ◌⊎◌, ◌∷◌, ◌||◌, ℕ}
use Rattle.std.proofs.lemmas.Bool.{and_parts, false≢true}
use Rattle.std.proofs.lemmas.List.Folds.{list_any-append}
use Rattle.node_core.proofs.Claims.{HasNone, Numbered, early_is, numbered}
use Rattle.node_core.proofs.Rowed.{number_of_rows, row_of, rows_put}
use Rattle.node_core.proofs.Settled.{height_is, inside}
use Rattle.node_core.specs.Due.{by_job, by_number, by_row, by_stage, by_tx, due_by, or_job}
use Rattle.node_core.specs.Kept.{AreRowsOf, IsNode, IsStageOf, Kept, shown_work, told_in, world_in}
use Rattle.node_core.specs.Rows.{put_row}
use Rattle.node_core.specs.declared.due.Due.TheVariants as stand
use Rattle.node_core.specs.declared.due.Due.{Due}
use Rattle.node_core.specs.declared.jobs.JobRow.{JobRow}
use Rattle.node_core.specs.declared.jobs.Stage.TheVariants as stage
use Rattle.node_core.specs.declared.jobs.Stage.{Stage}
use Rattle.node_core.specs.declared.delivered_block.DeliveredBlock.{DeliveredBlock}
use Rattle.node_model.specs.Decide.{bad_call, future}
use Rattle.node_model.specs.History.{ids_of, ids_told}
use Rattle.node_model.specs.Steps.{AllDecided, Decided, NoBlock, NotReady, Reply, ToCommit, commits, commits_due, early_cause, is_done_job, is_ready, reply}
use Rattle.node_model.specs.World as model
use Rattle.node_model.specs.World.{Job, change_job, change_place, decided, due, holder_of, is_done, is_live, job_at, job_of, number_of_job, same_tx}
use Rattle.node_model.specs.declared.journal.Event.TheVariants as event
use Rattle.node_model.specs.declared.outcome.Outcome.{Outcome}
use Rattle.node_model.specs.declared.outcome.Outcome.TheVariants as outcome
use Rattle.proc_syntax.specs.Call.{call_fault}
use Rattle.proc_syntax.specs.Declaring.{tables_of}
use Rattle.proc_syntax.specs.declared.call.Tx.{Tx}
use Rattle.rel_base.specs.declared.schema.TableDef.{TableDef}
use Rattle.rel_base.proofs.Bits.{or_true}
use Rattle.schedule_laws.proofs.Lists.{job_of-is, same_tx-exact}
use Rattle.std.specs.List.{list_any}
use Rattle.std.specs.Option.{is_some, option_and_then, option_map, option_or}
use Rattle.std.specs.Str.{bytes_eq}

-- an answer to a commit, as a reply
abbrev pub reply_of : Due → ℕ → ℕ → Reply
reply_of stand.Nothing pos number = (AllDecided number, None)
reply_of (stand.Early cause) pos number = (Decided pos, Some (event.Commit pos))
reply_of (stand.Waits holder) pos number = (NotReady pos holder, None)
reply_of (stand.Done job) pos number = (Decided pos, Some (event.Commit pos))

-- ---- small facts

-- ids that were decided stay so
any_more : (id : List ℕ) (told more : List (List ℕ)) → list_any (bytes_eq id) told ≡ true → list_any (bytes_eq id) (told ++ more) ≡ true
any_more id told more is = list_any-append (bytes_eq id) told more ∙ ap (λ b. b || list_any (bytes_eq id) more) is

stage_more : (tables : List TableDef) (told more : List (List ℕ)) (now : Stage) (job : Job) → IsStageOf tables told now job → IsStageOf tables (told ++ more) now job
stage_more tables told more stage.Waiting job is = is
stage_more tables told more (stage.Held actor) job is = is
stage_more tables told more (stage.Done recorded) job is = is
stage_more tables told more stage.Taken job is = (is.0, any_more job.tx.id told more is.1)
stage_more tables told more stage.Dropped job is = is

pub rows_told : (tables : List TableDef) (told more : List (List ℕ)) (rows : List JobRow) (jobs : List Job) → AreRowsOf tables told rows jobs → AreRowsOf tables (told ++ more) rows jobs
rows_told tables told more [] [] are = tt
rows_told tables told more [] (job ∷ jobs) are = absurd are
rows_told tables told more (row ∷ rows) [] are = absurd are
rows_told tables told more (row ∷ rows) (job ∷ jobs) are =
    (record { tx = are.0.tx; stage = stage_more tables told more row.stage job are.0.stage }, rows_told tables told more rows jobs are.1)

-- a change that changes nothing
same_place : (jobs : List Job) (place : ℕ) → change_place (λ (job : Job). job) jobs place ≡ jobs
same_place [] place = refl
same_place (job ∷ jobs) zero = refl
same_place (job ∷ jobs) (suc place) = ap (λ rest. job ∷ rest) (same_place jobs place)

same_jobs : (jobs : List Job) (number : ℕ) → change_job (λ (job : Job). job) jobs number ≡ jobs
same_jobs jobs zero = refl
same_jobs jobs (suc place) = same_place jobs place

-- the record of a done job is taken, once its transaction is decided
pub rows_take : (tables : List TableDef) (told : List (List ℕ)) (rows : List JobRow) (jobs : List Job) (number : ℕ) (job : Job) → job_at jobs number ≡ Some job → job.status ≡ model.Done
    → list_any (bytes_eq job.tx.id) told ≡ true → AreRowsOf tables told rows jobs → AreRowsOf tables told (put_row rows number stage.Taken) jobs
rows_take tables told rows jobs number job here done known are =
    subst (AreRowsOf tables told (put_row rows number stage.Taken)) (same_jobs jobs number)
    (rows_put tables told rows jobs number stage.Taken (λ (job : Job). job) job here refl (done, known) are)

-- ---- the answer

module _ (kept : Kept) (node : IsNode kept) (working : DeliveredBlock) (here : kept.work ≡ Some working) where
  pub told_here : told_in kept.work ≡ ids_told working.done.outcomes.items
  told_here = ap told_in here

  -- a transaction whose id was decided in the block has an early cause
  told_is_early : (tx : Tx) → list_any (bytes_eq tx.id) (ids_told working.done.outcomes.items) ≡ true → is_some (early_cause kept.app (world_in kept) (shown_work working) tx) ≡ true
  told_is_early tx told = by (list_any (bytes_eq tx.id) (ids_of (world_in kept).sealed ++ ids_told working.done.outcomes.items)) known
    where
      known : list_any (bytes_eq tx.id) (ids_of (world_in kept).sealed ++ ids_told working.done.outcomes.items) ≡ true
      known =
          list_any-append (bytes_eq tx.id) (ids_of (world_in kept).sealed) (ids_told working.done.outcomes.items)
          ∙ ap (λ b. list_any (bytes_eq tx.id) (ids_of (world_in kept).sealed) || b) told ∙ or_true (list_any (bytes_eq tx.id) (ids_of (world_in kept).sealed))

      by : (b : Bool) → b ≡ true → is_some (option_or (cond b (Some outcome.DuplicateId) None) (option_or (future working.block.value.number tx) (bad_call (call_fault kept.app tx)))) ≡ true
      by true is = refl
      by false is = cc

  -- by the job of a transaction without an early cause
  by_job_is : (tx : Tx) (pos number : ℕ) → is_some (early_cause kept.app (world_in kept) (shown_work working) tx) ≡ false
      → cond {A = Reply} (is_done_job (job_of tx (world_in kept).jobs)) (Decided pos, Some (event.Commit pos)) (NotReady pos (option_and_then (λ (job : Job). holder_of job.status) (job_of tx (world_in kept).jobs)), None)
      ≡ reply_of (by_job tx kept.rows) pos number
  by_job_is tx pos number late =
      by (numbered tx (world_in kept).jobs)
      ∙ sym (ap (λ (n : Option ℕ). reply_of (by_number kept.rows n) pos number) (number_of_rows (tables_of kept.app) (told_in kept.work) tx kept.rows (world_in kept).jobs node.rows))
    where
      answer : Option Job → Reply
      answer found = cond {A = Reply} (is_done_job found) (Decided pos, Some (event.Commit pos)) (NotReady pos (option_and_then (λ (job : Job). holder_of job.status) found), None)

      stage_is : (number' : ℕ) (job : Job) → job_of tx (world_in kept).jobs ≡ Some job → (now : Stage) → IsStageOf (tables_of kept.app) (told_in kept.work) now job → answer (Some job) ≡ reply_of (by_stage number' now) pos number
      stage_is number' job found stage.Waiting stays = ap (λ (s : model.JobStatus). cond {A = Reply} (is_done s) (Decided pos, Some (event.Commit pos)) (NotReady pos (holder_of s), None)) stays
      stage_is number' job found (stage.Held actor) stays = ap (λ (s : model.JobStatus). cond {A = Reply} (is_done s) (Decided pos, Some (event.Commit pos)) (NotReady pos (holder_of s), None)) stays
      stage_is number' job found (stage.Done recorded) stays = ap (λ (s : model.JobStatus). cond {A = Reply} (is_done s) (Decided pos, Some (event.Commit pos)) (NotReady pos (holder_of s), None)) stays.0
      stage_is number' job found stage.Taken stays =
          let same : job.tx ≡ tx = same_tx-exact job.tx tx (and_parts (is_live job.status) (same_tx job.tx tx) (job_of-is tx (world_in kept).jobs job found)).1 in
          let told : list_any (bytes_eq tx.id) (ids_told working.done.outcomes.items) ≡ true =
          ap (λ (t : Tx). list_any (bytes_eq t.id) (ids_told working.done.outcomes.items)) (sym same) ∙ (ap (list_any (bytes_eq job.tx.id)) (sym told_here) ∙ stays.1) in
          absurd (false≢true (sym late ∙ told_is_early tx told))
      stage_is number' job found stage.Dropped stays =
          let live : is_live job.status ≡ true = (and_parts (is_live job.status) (same_tx job.tx tx) (job_of-is tx (world_in kept).jobs job found)).0 in
          absurd (false≢true (sym (ap is_live stays) ∙ live))

      by : HasNone tx (world_in kept).jobs ⊎ Numbered tx (world_in kept).jobs → answer (job_of tx (world_in kept).jobs) ≡ reply_of (by_number kept.rows (number_of_job tx (world_in kept).jobs)) pos number
      by (inl none) = ap answer none.1 ∙ sym (ap (λ (n : Option ℕ). reply_of (by_number kept.rows n) pos number) none.0)
      by (inr found) =
          let there = row_of (tables_of kept.app) (told_in kept.work) kept.rows (world_in kept).jobs found.number found.job found.stands node.rows in
          ap answer found.is
          ∙ (stage_is found.number found.job found.is there.0.stage there.2.stage
          ∙ (sym (ap (λ (r : Option JobRow). reply_of (by_row found.number r) pos number) there.1)
          ∙ sym (ap (λ (n : Option ℕ). reply_of (by_number kept.rows n) pos number) found.numbered)))

  tx_is : (found : Option Tx) (pos : ℕ) → pos ≡ decided (shown_work working) + 1
      → commits_due kept.app (world_in kept) (shown_work working) found ≡ reply_of (by_tx kept.app kept.ids working.done.number kept.rows found) pos working.block.value.number
  tx_is None pos at = refl
  tx_is (Some tx) pos at =
      ap (λ n. cond {A = Reply} (is_ready kept.app (world_in kept) (shown_work working) tx) (Decided n, Some (event.Commit n)) (NotReady n (option_and_then (λ (job : Job). holder_of job.status) (job_of tx (world_in kept).jobs)), None)) (sym at)
      ∙ (by (early_cause kept.app (world_in kept) (shown_work working) tx) refl
      ∙ sym (ap (λ (o : Option Outcome). reply_of (or_job o (by_job tx kept.rows)) pos working.block.value.number) (early_is kept node working tx here)))
    where
      by : (cause : Option Outcome) → early_cause kept.app (world_in kept) (shown_work working) tx ≡ cause
          → cond {A = Reply} (is_some cause || is_done_job (job_of tx (world_in kept).jobs)) (Decided pos, Some (event.Commit pos)) (NotReady pos (option_and_then (λ (job : Job). holder_of job.status) (job_of tx (world_in kept).jobs)), None)
          ≡ reply_of (or_job cause (by_job tx kept.rows)) pos working.block.value.number
      by None is = by_job_is tx pos working.block.value.number (ap is_some is)
      by (Some cause) is = refl

  pub commit_so : (pos : ℕ) → pos ≡ length working.done.outcomes.items + 1 → reply kept.app (world_in kept) ToCommit ≡ reply_of (due_by kept.app kept.ids working kept.rows) pos working.block.value.number
  commit_so pos at = ap (commits kept.app (world_in kept)) (inside kept node working here) ∙ tx_is (due (shown_work working)) pos at

-- no block is in work
pub commit_idle : (kept : Kept) (node : IsNode kept) (height : ℕ) → height ≡ length kept.results → kept.work ≡ None → reply kept.app (world_in kept) ToCommit ≡ (NoBlock height, None)
commit_idle kept node height at none =
    ap (commits kept.app (world_in kept)) (sym node.work ∙ ap (option_map shown_work) none)
    ∙ ap (λ n. (NoBlock n, None)) (sym (at ∙ height_is kept node))
