-- Rows that are those of jobs.
use Rattle.std.proofs.Common.{Bool, List, Some, [], ap, cond, false, length, map, refl, slice_get, subst, suc, sym, true, zero, ◌+◌, ◌++◌, ◌∙◌, ◌≡◌, ◌∷◌, ℕ}
use Rattle.std.proofs.lemmas.Option.{none-some, same_Some}
use Rattle.std.specs.List.{enumerate_from, filter, position_from}
use Rattle.std.specs.Option.{is_some}
use Rattle.node_core.specs.Kept.{AreRowsOf, IsRowOf, IsStageOf}
use Rattle.node_core.specs.Rows.{at_stage, new_row, put_at, put_row, row_at, shown_all, status_of}
use Rattle.node_core.specs.declared.jobs.JobRow.{JobRow}
use Rattle.node_core.specs.declared.jobs.Stage.TheVariants as stage
use Rattle.node_core.specs.declared.jobs.Stage.{Stage}
use Rattle.node_model.specs.Steps.{Shared}
use Rattle.node_model.specs.World.{Job, JobStatus, change_job, change_place, eligible, is_eligible, is_for, job_at, job_of, new_job, number_of_job, unread}
use Rattle.proc_syntax.specs.declared.call.Tx.{Tx}
use Rattle.rel_base.specs.declared.schema.TableDef.{TableDef}

-- a job without what is recorded of its run
abbrev bare : Job → Job
bare job = record { tx = job.tx; status = job.status; recorded = unread }

-- ---- what tests on jobs look at

number_bare : (tx : Tx) (number : ℕ) (jobs : List Job) → position_from (is_for tx) number (map bare jobs) ≡ position_from (is_for tx) number jobs
number_bare tx number [] = refl
number_bare tx number (job ∷ jobs) = ap (cond (is_for tx job) (Some number)) (number_bare tx (number + 1) jobs)

eligible_bare : (number height : ℕ) (jobs : List Job) → map (λ (numbered : ℕ × Job). numbered.0) (filter (λ (numbered : ℕ × Job). is_eligible height numbered.1) (enumerate_from number (map bare jobs)))
    ≡ map (λ (numbered : ℕ × Job). numbered.0) (filter (λ (numbered : ℕ × Job). is_eligible height numbered.1) (enumerate_from number jobs))
eligible_bare number height [] = refl
eligible_bare number height (job ∷ jobs) = by (is_eligible height job) (eligible_bare (number + 1) height jobs)
  where
    by : (b : Bool) → map (λ (numbered : ℕ × Job). numbered.0) (filter (λ (numbered : ℕ × Job). is_eligible height numbered.1) (enumerate_from (number + 1) (map bare jobs)))
        ≡ map (λ (numbered : ℕ × Job). numbered.0) (filter (λ (numbered : ℕ × Job). is_eligible height numbered.1) (enumerate_from (number + 1) jobs))
        → map (λ (numbered : ℕ × Job). numbered.0) (cond b ((number, bare job) ∷ filter (λ (numbered : ℕ × Job). is_eligible height numbered.1) (enumerate_from (number + 1) (map bare jobs)))
        (filter (λ (numbered : ℕ × Job). is_eligible height numbered.1) (enumerate_from (number + 1) (map bare jobs))))
        ≡ map (λ (numbered : ℕ × Job). numbered.0) (cond b ((number, job) ∷ filter (λ (numbered : ℕ × Job). is_eligible height numbered.1) (enumerate_from (number + 1) jobs))
        (filter (λ (numbered : ℕ × Job). is_eligible height numbered.1) (enumerate_from (number + 1) jobs)))
    by true rest = ap (λ numbers. number ∷ numbers) rest
    by false rest = rest

-- the job of a transaction is there exactly where its number is
some_number : (tx : Tx) (number : ℕ) (jobs : List Job) → is_some (position_from (is_for tx) number jobs) ≡ is_some (job_of tx jobs)
some_number tx number [] = refl
some_number tx number (job ∷ jobs) = by (is_for tx job) (some_number tx (number + 1) jobs)
  where
    by : (b : Bool) → is_some (position_from (is_for tx) (number + 1) jobs) ≡ is_some (job_of tx jobs) → is_some (cond b (Some number) (position_from (is_for tx) (number + 1) jobs)) ≡ is_some (cond b (Some job) (job_of tx jobs))
    by true rest = refl
    by false rest = rest

pub status_is : (tables : List TableDef) (told : List (List ℕ)) (now : Stage) (job : Job) → IsStageOf tables told now job → status_of now ≡ job.status
status_is tables told stage.Waiting job is = sym is
status_is tables told (stage.Held actor) job is = sym is
status_is tables told (stage.Done recorded) job is = sym is.0
status_is tables told stage.Taken job is = sym is.0
status_is tables told stage.Dropped job is = sym is

module _ (tables : List TableDef) (told : List (List ℕ)) where
  shown_is : (rows : List JobRow) (jobs : List Job) → AreRowsOf tables told rows jobs → shown_all rows ≡ map bare jobs
  shown_is [] [] are = refl
  shown_is [] (job ∷ jobs) are = absurd are
  shown_is (row ∷ rows) [] are = absurd are
  shown_is (row ∷ rows) (job ∷ jobs) are =
      ap (λ (t : Tx). record { tx = t; status = status_of row.stage; recorded = unread } ∷ shown_all rows) are.0.tx
      ∙ ap (λ (s : JobStatus). record { tx = job.tx; status = s; recorded = unread } ∷ shown_all rows) (status_is tables told row.stage job are.0.stage)
      ∙ ap (λ (rest : List Job). bare job ∷ rest) (shown_is rows jobs are.1)

  pub number_of_rows : (tx : Tx) (rows : List JobRow) (jobs : List Job) → AreRowsOf tables told rows jobs → number_of_job tx (shown_all rows) ≡ number_of_job tx jobs
  number_of_rows tx rows jobs are = ap (number_of_job tx) (shown_is rows jobs are) ∙ number_bare tx 1 jobs

  pub has_job : (tx : Tx) (rows : List JobRow) (jobs : List Job) → AreRowsOf tables told rows jobs → is_some (number_of_job tx (shown_all rows)) ≡ is_some (job_of tx jobs)
  has_job tx rows jobs are = ap is_some (number_of_rows tx rows jobs are) ∙ some_number tx 1 jobs

  pub eligible_of_rows : (height : ℕ) (rows : List JobRow) (jobs : List Job) → AreRowsOf tables told rows jobs → eligible height (shown_all rows) ≡ eligible height jobs
  eligible_of_rows height rows jobs are = ap (eligible height) (shown_is rows jobs are) ∙ eligible_bare 1 height jobs

  pub same_length : (rows : List JobRow) (jobs : List Job) → AreRowsOf tables told rows jobs → length rows ≡ length jobs
  same_length [] [] are = refl
  same_length [] (job ∷ jobs) are = absurd are
  same_length (row ∷ rows) [] are = absurd are
  same_length (row ∷ rows) (job ∷ jobs) are = ap suc (same_length rows jobs are.1)

  -- ---- changes

  pub rows_more : (rows : List JobRow) (jobs : List Job) (shared : Shared Tx) (tx : Tx) → shared.value ≡ tx → AreRowsOf tables told rows jobs → AreRowsOf tables told (rows ++ new_row shared ∷ []) (jobs ++ new_job tx ∷ [])
  rows_more [] [] shared tx same are = (record { tx = same; stage = refl }, tt)
  rows_more [] (job ∷ jobs) shared tx same are = absurd are
  rows_more (row ∷ rows) [] shared tx same are = absurd are
  rows_more (row ∷ rows) (job ∷ jobs) shared tx same are = (are.0, rows_more rows jobs shared tx same are.1)

  put_in : (rows : List JobRow) (jobs : List Job) (place : ℕ) (now : Stage) (change : Job → Job) (job : Job) → slice_get jobs place ≡ Some job → (change job).tx ≡ job.tx → IsStageOf tables told now (change job)
      → AreRowsOf tables told rows jobs → AreRowsOf tables told (put_at rows place now) (change_place change jobs place)
  put_in [] [] place now change job here same is are = absurd (none-some job here)
  put_in [] (first ∷ jobs) place now change job here same is are = absurd are
  put_in (row ∷ rows) [] place now change job here same is are = absurd are
  put_in (row ∷ rows) (first ∷ jobs) zero now change job here same is are =
      let one : first ≡ job = same_Some first job here in
      (subst (λ (j : Job). IsRowOf tables told (at_stage now row) (change j)) (sym one) (record { tx = are.0.tx ∙ ap (λ (j : Job). j.tx) one ∙ sym same; stage = is }), are.1)
  put_in (row ∷ rows) (first ∷ jobs) (suc place) now change job here same is are = (are.0, put_in rows jobs place now change job here same is are.1)

  -- another stage of a row, where its job is changed
  pub rows_put : (rows : List JobRow) (jobs : List Job) (number : ℕ) (now : Stage) (change : Job → Job) (job : Job) → job_at jobs number ≡ Some job → (change job).tx ≡ job.tx → IsStageOf tables told now (change job)
      → AreRowsOf tables told rows jobs → AreRowsOf tables told (put_row rows number now) (change_job change jobs number)
  rows_put rows jobs zero now change job here same is are = absurd (none-some job here)
  rows_put rows jobs (suc place) now change job here same is are = put_in rows jobs place now change job here same is are

  keep_in : (rows : List JobRow) (jobs : List Job) (place : ℕ) (change : Job → Job) (job : Job) → slice_get jobs place ≡ Some job → ((row : JobRow) → IsRowOf tables told row job → IsRowOf tables told row (change job))
      → AreRowsOf tables told rows jobs → AreRowsOf tables told rows (change_place change jobs place)
  keep_in [] [] place change job here keeps are = absurd (none-some job here)
  keep_in [] (first ∷ jobs) place change job here keeps are = absurd are
  keep_in (row ∷ rows) [] place change job here keeps are = absurd are
  keep_in (row ∷ rows) (first ∷ jobs) zero change job here keeps are =
      let one : first ≡ job = same_Some first job here in
      (subst (λ (j : Job). IsRowOf tables told row (change j)) (sym one) (keeps row (subst (IsRowOf tables told row) one are.0)), are.1)
  keep_in (row ∷ rows) (first ∷ jobs) (suc place) change job here keeps are = (are.0, keep_in rows jobs place change job here keeps are.1)

  -- a change of a job that its row does not show
  pub rows_keep : (rows : List JobRow) (jobs : List Job) (number : ℕ) (change : Job → Job) (job : Job) → job_at jobs number ≡ Some job → ((row : JobRow) → IsRowOf tables told row job → IsRowOf tables told row (change job))
      → AreRowsOf tables told rows jobs → AreRowsOf tables told rows (change_job change jobs number)
  rows_keep rows jobs zero change job here keeps are = absurd (none-some job here)
  rows_keep rows jobs (suc place) change job here keeps are = keep_in rows jobs place change job here keeps are

  -- ---- a row and its job

  row_in : (rows : List JobRow) (jobs : List Job) (place : ℕ) (job : Job) → slice_get jobs place ≡ Some job → AreRowsOf tables told rows jobs → (row : JobRow) × (slice_get rows place ≡ Some row) × IsRowOf tables told row job
  row_in [] [] place job here are = absurd (none-some job here)
  row_in [] (first ∷ jobs) place job here are = absurd are
  row_in (row ∷ rows) [] place job here are = absurd are
  row_in (row ∷ rows) (first ∷ jobs) zero job here are = (row, refl, subst (IsRowOf tables told row) (same_Some first job here) are.0)
  row_in (row ∷ rows) (first ∷ jobs) (suc place) job here are = row_in rows jobs place job here are.1

  pub row_of : (rows : List JobRow) (jobs : List Job) (number : ℕ) (job : Job) → job_at jobs number ≡ Some job → AreRowsOf tables told rows jobs → (row : JobRow) × (row_at rows number ≡ Some row) × IsRowOf tables told row job
  row_of rows jobs zero job here are = absurd (none-some job here)
  row_of rows jobs (suc place) job here are = row_in rows jobs place job here are

  job_in : (rows : List JobRow) (jobs : List Job) (place : ℕ) (row : JobRow) → slice_get rows place ≡ Some row → AreRowsOf tables told rows jobs → (job : Job) × (slice_get jobs place ≡ Some job) × IsRowOf tables told row job
  job_in [] [] place row here are = absurd (none-some row here)
  job_in [] (job ∷ jobs) place row here are = absurd are
  job_in (first ∷ rows) [] place row here are = absurd are
  job_in (first ∷ rows) (job ∷ jobs) zero row here are = (job, refl, subst (λ (r : JobRow). IsRowOf tables told r job) (same_Some first row here) are.0)
  job_in (first ∷ rows) (job ∷ jobs) (suc place) row here are = job_in rows jobs place row here are.1

  pub job_of_row : (rows : List JobRow) (jobs : List Job) (number : ℕ) (row : JobRow) → row_at rows number ≡ Some row → AreRowsOf tables told rows jobs → (job : Job) × (job_at jobs number ≡ Some job) × IsRowOf tables told row job
  job_of_row rows jobs zero row here are = absurd (none-some row here)
  job_of_row rows jobs (suc place) row here are = job_in rows jobs place row here are
