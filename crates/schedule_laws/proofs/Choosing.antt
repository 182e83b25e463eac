-- What is claimed is a job that waits, with the tables of its height there.
use Rattle.std.proofs.Common.{Bool, List, None, Option, Some, [], ap, arith, bytes_eq, cond, false, filter, length, map, refl, slice_get, subst, suc, sym, true, zero, ◌%◌, ◌+◌, ◌++◌, ◌<◌, ◌∙◌, ◌≡◌, ◌≤◌, ◌∷◌, ℕ}
use Rattle.node_model.specs.Decide.{bad_call, early}
use Rattle.node_model.specs.History.{ids_of, ids_told}
use Rattle.node_model.specs.Steps.{chosen, due_number, early_cause, waiting_number}
use Rattle.node_model.specs.World.{BlockInWork, Job, World, due, eligible, is_eligible, is_for, is_waiting, job_at, job_of, number_of_job}
use Rattle.node_model.specs.declared.journal.Pick.TheVariants.{Due, Nth}
use Rattle.node_model.specs.declared.journal.Pick.{Pick}
use Rattle.node_model.specs.declared.outcome.Outcome.TheVariants as outcome
use Rattle.node_model.specs.declared.outcome.Outcome.{Outcome}
use Rattle.proc_syntax.specs.Call.{call_fault}
use Rattle.proc_syntax.specs.declared.call.CallFault.TheVariants.{BadArguments, UnknownProcedure}
use Rattle.proc_syntax.specs.declared.call.CallFault.{CallFault}
use Rattle.proc_syntax.specs.declared.call.Tx.{Tx}
use Rattle.proc_syntax.specs.declared.tree.App.{App}
use Rattle.schedule_laws.proofs.Lists.{for-same, job_of-is}
use Rattle.schedule_laws.specs.Allowed.{IsFree}
use Rattle.std.proofs.lemmas.Bool.{and_parts, leb-false, leb-true}
use Rattle.std.proofs.lemmas.Option.{none-some, same_Some}
use Rattle.std.specs.List.{enumerate_from, list_any, position_from}
use Rattle.std.specs.Option.{is_some, option_and_then, option_or}
use Rattle.std.specs.Prelude.{nat_le}

-- ---- no early cause

-- what it says that no cause is known without a run
pub record MayRun (app : App) (ids : List (List ℕ)) (number : ℕ) (tx : Tx) : Type 0 where
  pub unknown : list_any (bytes_eq tx.id) ids ≡ false
  pub low : tx.height < number
  pub can : call_fault app tx ≡ None

pub early-none : (app : App) (ids : List (List ℕ)) (number : ℕ) (tx : Tx) → early app ids number tx ≡ None → MayRun app ids number tx
early-none app ids number tx e = by (list_any (bytes_eq tx.id) ids) (nat_le number tx.height) (call_fault app tx) refl refl refl e where
  by : (a b : Bool) (fault : Option CallFault) → list_any (bytes_eq tx.id) ids ≡ a → nat_le number tx.height ≡ b → call_fault app tx ≡ fault
      → option_or (cond a (Some outcome.DuplicateId) None) (option_or (cond b (Some outcome.FutureHeight) None) (bad_call fault)) ≡ None → MayRun app ids number tx
  by true b fault x y z h = absurd (none-some outcome.DuplicateId (sym h))
  by false true fault x y z h = absurd (none-some outcome.FutureHeight (sym h))
  by false false (Some UnknownProcedure) x y z h = absurd (none-some outcome.UnknownProcedure (sym h))
  by false false (Some BadArguments) x y z h = absurd (none-some outcome.BadArguments (sym h))
  by false false None x y z h = record { unknown = x; low = leb-false number tx.height y; can = z }

-- ---- the job at a place modulo a count

-- a job of a list whose first has a number
record Waits (first height : ℕ) (jobs : List Job) (number : ℕ) : Type 0 where
  pub place : ℕ
  pub job : Job
  pub is : number ≡ first + place
  pub stands : slice_get jobs place ≡ Some job
  pub waits : is_waiting job.status ≡ true
  pub low : job.tx.height ≤ height

further : (first height : ℕ) (y : Job) (ys : List Job) (number : ℕ) → Waits (first + 1) height ys number → Waits first height (y ∷ ys) number
further first height y ys number f = let e = f.is in record { place = suc f.place; job = f.job; is = omega (arith, e); stands = f.stands; waits = f.waits; low = f.low }

-- the numbers of the jobs that pass, where the first has a number
abbrev numbers : ℕ → ℕ → List Job → List (ℕ × Job)
numbers first height jobs = filter (λ numbered. is_eligible height numbered.1) (enumerate_from first jobs)

here_or_further : (first height : ℕ) (y : Job) (ys : List Job) (number : ℕ) (b : Bool) → is_eligible height y ≡ b
    → ((k : ℕ) → slice_get (map (λ numbered. numbered.0) (numbers (first + 1) height ys)) k ≡ Some number → Waits (first + 1) height ys number)
    → (k : ℕ) → slice_get (map (λ numbered. numbered.0) (cond b ((first, y) ∷ numbers (first + 1) height ys) (numbers (first + 1) height ys))) k ≡ Some number → Waits first height (y ∷ ys) number
here_or_further first height y ys number true is rest zero e =
    let parts = and_parts (is_waiting y.status) (nat_le y.tx.height height) is in
    let same = same_Some first number e in
    record { place = zero; job = y; is = omega (arith, same); stands = refl; waits = parts.0; low = leb-true y.tx.height height parts.1 }
here_or_further first height y ys number true is rest (suc k) e = further first height y ys number (rest k e)
here_or_further first height y ys number false is rest k e = further first height y ys number (rest k e)

numbered_waits : (first height : ℕ) (jobs : List Job) (number k : ℕ) → slice_get (map (λ numbered. numbered.0) (numbers first height jobs)) k ≡ Some number → Waits first height jobs number
numbered_waits first height [] number k e = absurd (none-some number e)
numbered_waits first height (y ∷ ys) number k e = here_or_further first height y ys number (is_eligible height y) refl (λ k e. numbered_waits (first + 1) height ys number k e) k e

free_from : (w : World) (number : ℕ) → Waits 1 (length w.sealed) w.jobs number → IsFree w number
free_from w number f =
    let is = f.is in
    let at : number ≡ suc f.place = omega (arith, is) in
    record { job = f.job; stands = ap (job_at w.jobs) at ∙ f.stands; waits = f.waits; low = f.low }

-- ---- the job of the transaction that is due

pub record StandsFor (first : ℕ) (tx : Tx) (jobs : List Job) (number : ℕ) : Type 0 where
  pub place : ℕ
  pub job : Job
  pub is : number ≡ first + place
  pub stands : slice_get jobs place ≡ Some job
  pub found : job_of tx jobs ≡ Some job

pub number_stands : (first : ℕ) (tx : Tx) (jobs : List Job) (number : ℕ) → position_from (is_for tx) first jobs ≡ Some number → StandsFor first tx jobs number
number_stands first tx [] number e = absurd (none-some number e)
number_stands first tx (y ∷ ys) number e =
    (elim (is_for tx y) as (λ b. is_for tx y ≡ b → cond b (Some first) (position_from (is_for tx) (first + 1) ys) ≡ Some number → StandsFor first tx (y ∷ ys) number) [
      | true ↦ λ is e. let same = same_Some first number e in record { place = zero; job = y; is = omega (arith, same); stands = refl; found = ap (λ b. cond b (Some y) (job_of tx ys)) is }
      | false ↦ λ is e.
          let f = number_stands (first + 1) tx ys number e in
          let g = f.is in
          record { place = suc f.place; job = f.job; is = omega (arith, g); stands = f.stands; found = ap (λ b. cond b (Some y) (job_of tx ys)) is ∙ f.found }
    ]) refl e

module _ (app : App) (w : World) (next : (work : BlockInWork) → w.work ≡ Some work → work.block.number ≡ length w.sealed + 1) where
  waiting_free : (tx : Tx) (number : ℕ) (found : Option Job) → job_of tx w.jobs ≡ found → tx.height ≤ length w.sealed → waiting_number tx w.jobs found ≡ Some number → IsFree w number
  waiting_free tx number None is low e = absurd (none-some number e)
  waiting_free tx number (Some job) is low e = by (is_waiting job.status) refl e where
    by : (b : Bool) → is_waiting job.status ≡ b → cond b (number_of_job tx w.jobs) None ≡ Some number → IsFree w number
    by false waits e = absurd (none-some number e)
    by true waits e =
        let f = number_stands 1 tx w.jobs number e in
        let same : f.job ≡ job = same_Some f.job job (sym f.found ∙ is) in
        let fits : f.job.tx ≡ tx = for-same tx f.job (job_of-is tx w.jobs f.job f.found) in
        free_from w number (record {
          place = f.place;
          job = f.job;
          is = f.is;
          stands = f.stands;
          waits = ap (λ (x : Job). is_waiting x.status) same ∙ waits;
          low = subst (λ (t : Tx). t.height ≤ length w.sealed) (sym fits) low;
        })

  due_free : (work : BlockInWork) (tx : Option Tx) (number : ℕ) → w.work ≡ Some work → due_number app w work tx ≡ Some number → IsFree w number
  due_free work None number in_work e = absurd (none-some number e)
  due_free work (Some tx) number in_work e = by (early_cause app w work tx) refl e where
    by : (cause : Option Outcome) → early_cause app w work tx ≡ cause → cond (is_some cause) None (waiting_number tx w.jobs (job_of tx w.jobs)) ≡ Some number → IsFree w number
    by (Some cause) is e = absurd (none-some number e)
    by None is e =
        let runs = early-none app (ids_of w.sealed ++ ids_told work.done.outcomes) work.block.number tx is in
        let low = runs.low in
        let at = next work in_work in
        waiting_free tx number (job_of tx w.jobs) refl (omega (arith, low, at)) e

  pub chosen_free : (pick : Pick) (number : ℕ) → chosen app w pick ≡ Some number → IsFree w number
  chosen_free (Nth n) number e = free_from w number (numbered_waits 1 (length w.sealed) w.jobs number (n % length (eligible (length w.sealed) w.jobs)) e)
  chosen_free Due number e = by w.work refl e where
    by : (work : Option BlockInWork) → w.work ≡ work → option_and_then (λ work. due_number app w work (due work)) work ≡ Some number → IsFree w number
    by None is e = absurd (none-some number e)
    by (Some work) is e = due_free work (due work) number is e
