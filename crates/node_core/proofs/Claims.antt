-- A claim is a step, and what was claimed is held.
use Rattle.std.proofs.Common.{Bool, IsSome, List, None, Option, Some, [], ap, arith, cond, false, inl, inr, length, refl, slice_get, subst, suc, sym, true, zero, ◌%◌, ◌+◌, ◌++◌, ◌∙◌, ◌≡◌, ◌≤◌, ◌⊎◌, ◌∷◌, ℕ}
use Rattle.std.proofs.lemmas.Bool.{false≢true}
use Rattle.std.proofs.lemmas.Option.{none-some, same_Some}
use Rattle.std.specs.List.{position_from}
use Rattle.std.specs.Option.{IsSomeAnd, is_some, option_and_then, option_map}
use Rattle.std.specs.Prelude.{ℤ}
use Rattle.block_work.proofs.Places.{is_known}
use Rattle.block_work.specs.Causes.{early_by}
use Rattle.block_work.specs.Ids.{place_of_id}
use Rattle.node_core.proofs.Journal.{facts, quiet, world_noted}
use Rattle.node_core.proofs.Rowed.{eligible_of_rows, number_of_rows, row_of, rows_put, status_is}
use Rattle.node_core.proofs.Settled.{first_places, height_is, works_on}
use Rattle.node_core.proofs.Table.{count_put}
use Rattle.node_core.specs.Choosing.{due_in, due_of, if_waiting, waiting_in}
use Rattle.node_core.specs.Core.{IsHeld}
use Rattle.node_core.specs.InHand.{InHand}
use Rattle.node_core.specs.Kept.{AreRowsOf, IsNode, IsRowOf, Kept, shown_work, told_in, world_in}
use Rattle.node_core.specs.Rows.{count_held, put_row, row_at, row_waits, shown_all, status_of}
use Rattle.node_core.specs.declared.jobs.JobRow.{JobRow}
use Rattle.node_core.specs.declared.jobs.Stage.TheVariants as stage
use Rattle.node_core.specs.declared.jobs.Stage.{Stage}
use Rattle.node_core.specs.declared.delivered_block.DeliveredBlock.{DeliveredBlock}
use Rattle.node_model.specs.Decide.{early}
use Rattle.node_model.specs.Events.{after, claimed}
use Rattle.node_model.specs.History.{ids_of, ids_told, time_at}
use Rattle.node_model.specs.Journals.{world}
use Rattle.node_model.specs.Steps.{Claimed, May, ToClaim, chosen, claims, due_number, early_cause, waiting_number}
use Rattle.node_model.specs.World as model
use Rattle.node_model.specs.World.{BlockInWork, Job, World, change_job, change_place, due, eligible, is_for, is_held, is_waiting, job_at, job_of, number_of_job}
use Rattle.node_model.specs.declared.journal.Entry.{Entry}
use Rattle.node_model.specs.declared.outcome.Outcome.{Outcome}
use Rattle.node_model.specs.declared.journal.Event.TheVariants.{Claim}
use Rattle.node_model.specs.declared.journal.Pick.TheVariants as pick
use Rattle.node_model.specs.declared.journal.Pick.{Pick}
use Rattle.proc_run.specs.MachineView.{MachineView}
use Rattle.proc_syntax.specs.Declaring.{tables_of}
use Rattle.proc_syntax.specs.declared.call.Tx.{Tx}
use Rattle.schedule_laws.proofs.Allowing.{steps_are_allowed}
use Rattle.schedule_laws.specs.Allowed.{IsFree}

-- ---- the job of a transaction, and its number

record Found (tx : Tx) (first : ℕ) (jobs : List Job) : Type 0 where
  pub place : ℕ
  pub job : Job
  pub numbered : position_from (is_for tx) first jobs ≡ Some (first + place)
  pub is : job_of tx jobs ≡ Some job
  pub stands : slice_get jobs place ≡ Some job

abbrev IsAbsent : Tx → ℕ → List Job → Type 0
IsAbsent tx first jobs = (position_from (is_for tx) first jobs ≡ None) × (job_of tx jobs ≡ None)

look_for : (tx : Tx) (first : ℕ) (jobs : List Job) → IsAbsent tx first jobs ⊎ Found tx first jobs
look_for tx first [] = inl (refl, refl)
look_for tx first (job ∷ jobs) = by (is_for tx job) refl (look_for tx (first + 1) jobs)
  where
    by : (b : Bool) → is_for tx job ≡ b → IsAbsent tx (first + 1) jobs ⊎ Found tx (first + 1) jobs → IsAbsent tx first (job ∷ jobs) ⊎ Found tx first (job ∷ jobs)
    by true is rest = inr (record {
      place = 0;
      job = job;
      numbered = ap (λ b. cond b (Some first) (position_from (is_for tx) (first + 1) jobs)) is ∙ ap (λ n. Some n) (omega arith);
      is = ap (λ b. cond b (Some job) (job_of tx jobs)) is;
      stands = refl;
    })
    by false is (inl none) = inl (ap (λ b. cond b (Some first) (position_from (is_for tx) (first + 1) jobs)) is ∙ none.0, ap (λ b. cond b (Some job) (job_of tx jobs)) is ∙ none.1)
    by false is (inr found) = inr (record {
      place = suc found.place;
      job = found.job;
      numbered = ap (λ b. cond b (Some first) (position_from (is_for tx) (first + 1) jobs)) is ∙ found.numbered ∙ ap (λ n. Some n) (omega arith);
      is = ap (λ b. cond b (Some job) (job_of tx jobs)) is ∙ found.is;
      stands = found.stands;
    })

-- where a transaction has a job, that has a number
pub record Numbered (tx : Tx) (jobs : List Job) : Type 0 where
  pub number : ℕ
  pub job : Job
  pub numbered : number_of_job tx jobs ≡ Some number
  pub is : job_of tx jobs ≡ Some job
  pub stands : job_at jobs number ≡ Some job

abbrev pub HasNone : Tx → List Job → Type 0
HasNone tx jobs = (number_of_job tx jobs ≡ None) × (job_of tx jobs ≡ None)

pub numbered : (tx : Tx) (jobs : List Job) → HasNone tx jobs ⊎ Numbered tx jobs
numbered tx jobs = by (look_for tx 1 jobs)
  where
    by : IsAbsent tx 1 jobs ⊎ Found tx 1 jobs → HasNone tx jobs ⊎ Numbered tx jobs
    by (inl none) = inl none
    by (inr found) = inr (record { number = suc found.place; job = found.job; numbered = found.numbered ∙ ap (λ n. Some n) (omega arith); is = found.is; stands = found.stands })

-- a job that was changed
pub changed_at : (jobs : List Job) (number : ℕ) (change : Job → Job) (job : Job) → job_at jobs number ≡ Some job → job_at (change_job change jobs number) number ≡ Some (change job)
changed_at jobs zero change job here = absurd (none-some job here)
changed_at jobs (suc place) change job here = by jobs place here
  where
    by : (jobs : List Job) (place : ℕ) → slice_get jobs place ≡ Some job → slice_get (change_place change jobs place) place ≡ Some (change job)
    by [] place here = absurd (none-some job here)
    by (first ∷ jobs) zero here = ap (λ (j : Job). Some (change j)) (same_Some first job here)
    by (first ∷ jobs) (suc place) here = by jobs place here

module _ (kept : Kept) (node : IsNode kept) where
  -- ---- the choice

  pub choose_nth : (height n : ℕ) → height ≡ length kept.results → slice_get (eligible height (shown_all kept.rows)) (n % length (eligible height (shown_all kept.rows))) ≡ chosen kept.app (world_in kept) (pick.Nth n)
  choose_nth height n at =
      ap (λ (numbers : List ℕ). slice_get numbers (n % length numbers))
      (eligible_of_rows (tables_of kept.app) (told_in kept.work) height kept.rows (world_in kept).jobs node.rows ∙ ap (λ h. eligible h (world_in kept).jobs) (at ∙ height_is kept node))

  pub waits_is : (number : ℕ) (job : Job) → job_at (world_in kept).jobs number ≡ Some job → row_waits (row_at kept.rows number) ≡ is_waiting job.status
  waits_is number job here =
      let there = row_of (tables_of kept.app) (told_in kept.work) kept.rows (world_in kept).jobs number job here node.rows in
      ap row_waits there.1 ∙ ap is_waiting (status_is (tables_of kept.app) (told_in kept.work) there.0.stage job there.2.stage)

  waiting_is : (tx : Tx) → waiting_in tx kept.rows ≡ waiting_number tx (world_in kept).jobs (job_of tx (world_in kept).jobs)
  waiting_is tx = ap (if_waiting kept.rows) (number_of_rows (tables_of kept.app) (told_in kept.work) tx kept.rows (world_in kept).jobs node.rows) ∙ by (numbered tx (world_in kept).jobs)
    where
      by : HasNone tx (world_in kept).jobs ⊎ Numbered tx (world_in kept).jobs → if_waiting kept.rows (number_of_job tx (world_in kept).jobs) ≡ waiting_number tx (world_in kept).jobs (job_of tx (world_in kept).jobs)
      by (inl none) = ap (if_waiting kept.rows) none.0 ∙ sym (ap (waiting_number tx (world_in kept).jobs) none.1)
      by (inr found) =
          ap (if_waiting kept.rows) found.numbered
          ∙ (ap (λ b. cond b (Some found.number) None) (waits_is found.number found.job found.stands)
          ∙ (ap (λ (n : Option ℕ). cond (is_waiting found.job.status) n None) (sym found.numbered)
          ∙ sym (ap (waiting_number tx (world_in kept).jobs) found.is)))

  -- the cause that is known without a run
  pub early_is : (working : DeliveredBlock) (tx : Tx) → kept.work ≡ Some working → early_by (is_some (place_of_id kept.ids tx.id)) kept.app working.done.number tx ≡ early_cause kept.app (world_in kept) (shown_work working) tx
  early_is working tx here =
      ap (λ b. early_by b kept.app working.done.number tx)
      (is_known kept.ids (world_in kept).sealed working.done.number working.done.outcomes.items tx.id (first_places kept node working here))
      ∙ ap (λ n. early kept.app (ids_of (world_in kept).sealed ++ ids_told working.done.outcomes.items) n tx) (works_on kept node working here).number

  due_is : (working : DeliveredBlock) → kept.work ≡ Some working → (found : Option Tx) → due_of kept.app kept.ids working.done.number kept.rows found ≡ due_number kept.app (world_in kept) (shown_work working) found
  due_is working here None = refl
  due_is working here (Some tx) =
      ap (λ (o : Option Outcome). cond (is_some o) None (waiting_in tx kept.rows)) (early_is working tx here)
      ∙ ap (λ (n : Option ℕ). cond (is_some (early_cause kept.app (world_in kept) (shown_work working) tx)) None n) (waiting_is tx)

  pub choose_due : due_in kept.app kept.ids kept.work kept.rows ≡ chosen kept.app (world_in kept) pick.Due
  choose_due = by kept.work refl ∙ ap (λ (w : Option BlockInWork). option_and_then (λ (work : BlockInWork). due_number kept.app (world_in kept) work (due work)) w) node.work
    where
      by : (work : Option DeliveredBlock) → kept.work ≡ work → due_in kept.app kept.ids work kept.rows ≡ option_and_then (λ (work : BlockInWork). due_number kept.app (world_in kept) work (due work)) (option_map shown_work work)
      by None here = refl
      by (Some working) here = due_is working here (due (shown_work working))

  -- ---- the claim

  module _ (actor job : ℕ) (pick : Pick) (may : May kept.app (world_in kept) actor (ToClaim pick)) (is : chosen kept.app (world_in kept) pick ≡ Some job) where
    free : IsFree (world_in kept) job
    free = steps_are_allowed kept.app (world_in kept) (record { actor = actor; event = Claim job }) (facts kept node) (record { ask = ToClaim pick; may = may; told = ap (λ (o : Option ℕ). (claims o).1) is })

    there : (row : JobRow) × (row_at kept.rows job ≡ Some row) × IsRowOf (tables_of kept.app) (told_in kept.work) row free.job
    there = row_of (tables_of kept.app) (told_in kept.work) kept.rows (world_in kept).jobs job free.job free.stands node.rows

    waits : is_waiting (status_of there.0.stage) ≡ true
    waits = ap is_waiting (status_is (tables_of kept.app) (told_in kept.work) there.0.stage free.job there.2.stage) ∙ free.waits

    pub claim_there : IsSome (row_at kept.rows job)
    claim_there = ap is_some there.1

    pub claim_waits : IsSomeAnd (row_at kept.rows job) (λ row. is_waiting (status_of row.stage) ≡ true)
    claim_waits = subst (λ (o : Option JobRow). IsSomeAnd o (λ row. is_waiting (status_of row.stage) ≡ true)) (sym there.1) waits

    not_held : count_held (put_row kept.rows job (stage.Held actor)) ≡ count_held kept.rows + 1
    not_held = by there.0.stage waits (count_put kept.rows job (stage.Held actor) there.0 there.1)
      where
        by : (now : Stage) → is_waiting (status_of now) ≡ true → count_held (put_row kept.rows job (stage.Held actor)) + cond (is_held (status_of now)) 1 0 ≡ count_held kept.rows + 1
            → count_held (put_row kept.rows job (stage.Held actor)) ≡ count_held kept.rows + 1
        by stage.Waiting e count = omega (arith, count)
        by (stage.Held other) e count = absurd (false≢true e)
        by (stage.Done recorded) e count = absurd (false≢true e)
        by stage.Taken e count = absurd (false≢true e)
        by stage.Dropped e count = absurd (false≢true e)

    pub claim_room : (rows' : List JobRow) (len room capacity : ℕ) → rows' ≡ put_row kept.rows job (stage.Held actor) → room + 2 + count_held kept.rows ≤ capacity → len ≡ room + 1 → len + count_held rows' ≤ capacity
    claim_room rows' len room capacity are fits longer = let counted = ap count_held are ∙ not_held in omega (arith, counted, fits, longer)

    module _ (journal' : List Entry) (more : journal' ≡ kept.journal ++ record { actor = actor; event = Claim job } ∷ []) where
      pub claim_kept : (rows' : List JobRow) → rows' ≡ put_row kept.rows job (stage.Held actor) → IsNode (record kept { rows = rows'; journal = journal' })
      claim_kept rows' are =
          quiet kept node actor (ToClaim pick) (Claimed job) (Claim job) may (ap claims is) journal' more refl refl rows'
          (subst (λ rs. AreRowsOf (tables_of kept.app) (told_in kept.work) rs (change_job (claimed actor) (world_in kept).jobs job)) (sym are)
          (rows_put (tables_of kept.app) (told_in kept.work) kept.rows (world_in kept).jobs job (stage.Held actor) (claimed actor) free.job free.stands refl refl node.rows))

      pub claim_held : (work : InHand) (told : MachineView) (tx : Tx) (time : ℤ) → work ≡ record { job = job; actor = actor; told = told; cut = false; gone = false }
          → told ≡ record { app = kept.app; tx = tx; time = time; fed = []; asks = None; ended = false }
          → option_map (λ (row : JobRow). row.tx.value) (row_at kept.rows job) ≡ Some tx → time ≡ time_at tx.height (world_in kept).sealed → IsHeld (record { app = kept.app; journal = journal' }) work
      claim_held work told tx time work_is told_is shares at =
          subst (λ (w : InHand). IsHeld (record { app = kept.app; journal = journal' }) w) (sym work_is)
          (subst (λ (t : MachineView). IsHeld (record { app = kept.app; journal = journal' }) (record { job = job; actor = actor; told = t; cut = false; gone = false })) (sym told_is) (record {
            app = refl;
            holds = record {
              stands = ap (λ (w : World). job_at w.jobs job) after_it
                  ∙ (changed_at (world_in kept).jobs job (claimed actor) free.job free.stands
                  ∙ ap (λ (t : Tx). Some (record { tx = t; status = model.Held actor; recorded = model.unread })) same);
              held = refl;
            };
            time = at ∙ sym (ap (λ (w : World). time_at tx.height w.sealed) after_it);
          }))
        where
          after_it : world kept.app journal' ≡ after kept.app (world_in kept) (record { actor = actor; event = Claim job })
          after_it = world_noted kept node actor (ToClaim pick) (Claimed job) (Claim job) may (ap claims is) journal' more

          same : free.job.tx ≡ tx
          same = sym there.2.tx ∙ same_Some there.0.tx.value tx (sym (ap (option_map (λ (row : JobRow). row.tx.value)) there.1) ∙ shares)
