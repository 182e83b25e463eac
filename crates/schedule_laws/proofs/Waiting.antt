-- What a commit that is not ready waits for.
use Rattle.std.proofs.Common.{Bool, IsSome, List, None, Option, Some, [], ap, arith, cond, false, find, refl, subst, suc, sym, true, ◌+◌, ◌++◌, ◌∙◌, ◌≡◌, ◌∷◌, ℕ}
use Rattle.node_model.specs.Decide.{early}
use Rattle.node_model.specs.History.{ids_of}
use Rattle.node_model.specs.Steps.{AllDecided, Answer, Claimed, Decided, Digest, Doomed, Gone, InWork, Invalid, Kept, Known, NoBlock, NoJob, NotAll, NotNext, NotReady, Queued, Released, Reply, Rows, Taken, ToCommit, chosen, commits, commits_due, due_number, early_cause, is_done_job, is_ready, reply, waiting_number}
use Rattle.node_model.specs.World.{BlockInWork, Done, Dropped, Held, Job, JobStatus, Waiting, World, decided, due, holder_of, is_done, is_for, is_live, is_waiting, job_at, job_of, number_of_job, same_tx}
use Rattle.node_model.specs.declared.journal.Event.TheVariants.{Commit}
use Rattle.node_model.specs.declared.journal.Pick.TheVariants.{Due}
use Rattle.node_model.specs.declared.outcome.Outcome.{Outcome}
use Rattle.proc_syntax.specs.declared.call.Tx.{Tx}
use Rattle.proc_syntax.specs.declared.tree.App.{App}
use Rattle.schedule_laws.proofs.Choosing.{number_stands}
use Rattle.schedule_laws.proofs.Lists.{job_of-is}
use Rattle.schedule_laws.specs.Due.{IsDueJob}
use Rattle.schedule_laws.specs.Facts.{FactsHold}
use Rattle.schedule_laws.specs.Laws.{DueIsFirst, HolderIsNamed, WaitingIsDue}
use Rattle.std.proofs.lemmas.Bool.{and_parts, false≢true, or_parts}
use Rattle.std.proofs.lemmas.Option.{none-some, same_Some}
use Rattle.std.specs.List.{position_from}
use Rattle.std.specs.Option.{is_some, option_and_then}
use Rattle.rel_base.proofs.Lists.{not_some}

-- ---- the job of a transaction has a number

position-some : (test : Job → Bool) (first : ℕ) (jobs : List Job) → IsSome (find test jobs) → IsSome (position_from test first jobs)
position-some test first [] some = absurd (false≢true some)
position-some test first (y ∷ ys) some =
    (elim (test y) as (λ b. IsSome (cond b (Some y) (find test ys)) → IsSome (cond b (Some first) (position_from test (first + 1) ys))) [
      | true ↦ λ s. refl
      | false ↦ λ s. position-some test (first + 1) ys s
    ]) some

some_is : {X : Type 0} (o : Option X) → IsSome o → (x : X) × (o ≡ Some x)
some_is None some = absurd (false≢true some)
some_is (Some x) some = (x, refl)

-- a job that is found stands somewhere
numbered : (w : World) (tx : Tx) (job : Job) → job_of tx w.jobs ≡ Some job → (number : ℕ) × (job_at w.jobs number ≡ Some job)
numbered w tx job found =
    let n = some_is (position_from (is_for tx) 1 w.jobs) (position-some (is_for tx) 1 w.jobs (subst (λ o. IsSome o) (sym found) refl)) in
    let f = number_stands 1 tx w.jobs n.0 n.1 in
    (suc f.place, f.stands ∙ (sym f.found ∙ found))

-- ---- the due job

module _ (app : App) (w : World) where
  due_waits : (number : ℕ) (work : BlockInWork) (tx : Tx) → w.work ≡ Some work → due work ≡ Some tx → (found : Option Job) → job_of tx w.jobs ≡ found → waiting_number tx w.jobs found ≡ Some number
      → (job : Job) × IsDueJob w number job × (is_waiting job.status ≡ true)
  due_waits number work tx in_work is_due None found e = absurd (none-some number e)
  due_waits number work tx in_work is_due (Some job) found e = by (is_waiting job.status) refl e where
    by : (b : Bool) → is_waiting job.status ≡ b → cond b (number_of_job tx w.jobs) None ≡ Some number → (job : Job) × IsDueJob w number job × (is_waiting job.status ≡ true)
    by false waits e = absurd (none-some number e)
    by true waits e =
        let f = number_stands 1 tx w.jobs number e in
        let is = f.is in
        let at : number ≡ suc f.place = omega (arith, is) in
        let same : f.job ≡ job = same_Some f.job job (sym f.found ∙ found) in
        (job, record { work = work; in_work = in_work; tx = tx; is_due = is_due; stands = ap (job_at w.jobs) at ∙ (f.stands ∙ ap Some same); has_tx = job_of-is tx w.jobs job found }, waits)

  due_first : (number : ℕ) (work : BlockInWork) → w.work ≡ Some work → (tx : Option Tx) → due work ≡ tx → due_number app w work tx ≡ Some number → (job : Job) × IsDueJob w number job × (is_waiting job.status ≡ true)
  due_first number work in_work None is_due e = absurd (none-some number e)
  due_first number work in_work (Some tx) is_due e = by (early_cause app w work tx) e where
    by : (cause : Option Outcome) → cond (is_some cause) None (waiting_number tx w.jobs (job_of tx w.jobs)) ≡ Some number → (job : Job) × IsDueJob w number job × (is_waiting job.status ≡ true)
    by (Some cause) e = absurd (none-some number e)
    by None e = due_waits number work tx in_work is_due (job_of tx w.jobs) refl e

pub due_is_first : DueIsFirst
due_is_first app w number e = by w.work refl e where
  by : (o : Option BlockInWork) → w.work ≡ o → option_and_then (λ work. due_number app w work (due work)) o ≡ Some number → (job : Job) × IsDueJob w number job × (is_waiting job.status ≡ true)
  by None is e = absurd (none-some number e)
  by (Some work) is e = due_first app w number work is (due work) refl e

-- ---- what is waited for

-- who holds the job that an answer waits for, where it does wait
abbrev waits_for : Answer → Option (Option ℕ)
waits_for (NotReady pos holder) = Some holder
waits_for Invalid = None
waits_for Known = None
waits_for Queued = None
waits_for NoJob = None
waits_for (Claimed number) = None
waits_for Rows = None
waits_for (Doomed place) = None
waits_for (Gone number) = None
waits_for Kept = None
waits_for Released = None
waits_for (InWork number) = None
waits_for (NotNext number) = None
waits_for Taken = None
waits_for (Decided pos) = None
waits_for (AllDecided number) = None
waits_for (NoBlock number) = None
waits_for (NotAll pos) = None
waits_for (Digest number digest) = None

-- what an answer that is not ready tells
record Waits (app : App) (w : World) (holder : Option ℕ) : Type 0 where
  pub work : BlockInWork
  pub in_work : w.work ≡ Some work
  pub tx : Tx
  pub is_due : due work ≡ Some tx
  pub not_ready : is_ready app w work tx ≡ false
  pub named : option_and_then (λ job. holder_of job.status) (job_of tx w.jobs) ≡ holder

module _ (app : App) (w : World) (pos : ℕ) (holder : Option ℕ) where
  waits_due : (work : BlockInWork) → w.work ≡ Some work → (tx : Option Tx) → due work ≡ tx → (commits_due app w work tx).0 ≡ NotReady pos holder → Waits app w holder
  waits_due work in_work None is_due e = absurd (none-some holder (ap waits_for e))
  waits_due work in_work (Some tx) is_due e = by (is_ready app w work tx) refl e where
    by : (b : Bool) → is_ready app w work tx ≡ b
        → (cond {A = Reply} b (Decided (decided work + 1), Some (Commit (decided work + 1))) (NotReady (decided work + 1) (option_and_then (λ job. holder_of job.status) (job_of tx w.jobs)), None)).0 ≡ NotReady pos holder
        → Waits app w holder
    by true ready e = absurd (none-some holder (ap waits_for e))
    by false ready e = record { work = work; in_work = in_work; tx = tx; is_due = is_due; not_ready = ready; named = same_Some _ holder (ap waits_for e) }

  waits : (reply app w ToCommit).0 ≡ NotReady pos holder → Waits app w holder
  waits e = by w.work refl e where
    by : (o : Option BlockInWork) → w.work ≡ o → (commits app w o).0 ≡ NotReady pos holder → Waits app w holder
    by None is e = absurd (none-some holder (ap waits_for e))
    by (Some work) is e = waits_due work is (due work) refl e

-- the job that a commit waits for: it is there, and it is not done
record Awaited (app : App) (w : World) (holder : Option ℕ) (waits : Waits app w holder) : Type 0 where
  pub job : Job
  pub found : job_of waits.tx w.jobs ≡ Some job
  pub early : early_cause app w waits.work waits.tx ≡ None
  pub not_done : is_done job.status ≡ false
  pub live : is_live job.status ≡ true

awaited : (app : App) (w : World) (holder : Option ℕ) (waits : Waits app w holder) → FactsHold app w → Awaited app w holder waits
awaited app w holder waits facts =
    let fits = facts.work_fits waits.work waits.in_work in
    let parts = or_parts (is_some (early_cause app w waits.work waits.tx)) (is_done_job (job_of waits.tx w.jobs)) waits.not_ready in
    let none : early_cause app w waits.work waits.tx ≡ None = not_some (early_cause app w waits.work waits.tx) parts.0 in
    let job = some_is (job_of waits.tx w.jobs) (fits.have_jobs (decided waits.work) waits.tx (omega arith) waits.is_due (ap (λ ids. early app (ids_of w.sealed ++ ids) waits.work.block.number waits.tx) (sym fits.told) ∙ none)) in
    record {
      job = job.0;
      found = job.1;
      early = none;
      not_done = sym (ap is_done_job job.1) ∙ parts.1;
      live = (and_parts (is_live job.0.status) (same_tx job.0.tx waits.tx) (job_of-is waits.tx w.jobs job.0 job.1)).0;
    }

module _ (app : App) (w : World) (pos : ℕ) (facts : FactsHold app w) where
  waits_unheld : (s : JobStatus) → is_done s ≡ false → is_live s ≡ true → holder_of s ≡ None → is_waiting s ≡ true
  waits_unheld Waiting done live none = refl
  waits_unheld (Held actor) done live none = absurd (none-some actor (sym none))
  waits_unheld Done done live none = absurd (false≢true (sym done))
  waits_unheld Dropped done live none = absurd (false≢true live)

  holder_holds : (s : JobStatus) (holder : ℕ) → holder_of s ≡ Some holder → s ≡ Held holder
  holder_holds Waiting holder e = absurd (none-some holder e)
  holder_holds (Held actor) holder e = ap Held (same_Some actor holder e)
  holder_holds Done holder e = absurd (none-some holder e)
  holder_holds Dropped holder e = absurd (none-some holder e)

  waiting_is_due : (reply app w ToCommit).0 ≡ NotReady pos None → IsSome (chosen app w Due)
  waiting_is_due e =
      let told = waits app w pos None e in
      let a = awaited app w None told facts in
      let number = numbered_of told.tx a.job a.found in
      let waiting = waits_unheld a.job.status a.not_done a.live (sym (ap (option_and_then (λ (job : Job). holder_of job.status)) a.found) ∙ told.named) in
      subst (λ o. IsSome (option_and_then (λ work. due_number app w work (due work)) o)) (sym told.in_work)
      (subst (λ t. IsSome (due_number app w told.work t)) (sym told.is_due)
      (subst (λ cause. IsSome (cond (is_some cause) None (waiting_number told.tx w.jobs (job_of told.tx w.jobs)))) (sym a.early)
      (subst (λ found. IsSome (waiting_number told.tx w.jobs found)) (sym a.found)
      (subst (λ b. IsSome (cond b (number_of_job told.tx w.jobs) None)) (sym waiting) number))))
    where
      numbered_of : (tx : Tx) (job : Job) → job_of tx w.jobs ≡ Some job → IsSome (number_of_job tx w.jobs)
      numbered_of tx job found = position-some (is_for tx) 1 w.jobs (subst (λ o. IsSome o) (sym found) refl)

  holder_is_named : (holder : ℕ) → (reply app w ToCommit).0 ≡ NotReady pos (Some holder) → (number : ℕ) × (job : Job) × IsDueJob w number job × (job.status ≡ Held holder)
  holder_is_named holder e =
      let told = waits app w pos (Some holder) e in
      let a = awaited app w (Some holder) told facts in
      let n = numbered w told.tx a.job a.found in (
        n.0,
        a.job,
        record { work = told.work; in_work = told.in_work; tx = told.tx; is_due = told.is_due; stands = n.1; has_tx = job_of-is told.tx w.jobs a.job a.found },
        holder_holds a.job.status holder (sym (ap (option_and_then (λ (job : Job). holder_of job.status)) a.found) ∙ told.named),
      )

pub waiting_due : WaitingIsDue
waiting_due app w pos facts e = waiting_is_due app w pos facts e

pub holder_named : HolderIsNamed
holder_named app w pos holder facts e = holder_is_named app w pos facts holder e
