-- Jobs that stay: no dropped one comes back, and a valid transaction keeps its own.
use Rattle.std.proofs.Common.{Bool, List, None, Option, Some, ap, bytes_eq, cond, false, map, refl, subst, sym, take, true, ◌++◌, ◌∙◌, ◌≡◌, ℕ}
use Rattle.node_model.specs.Decide.{run_at}
use Rattle.node_model.specs.Events.{claimed, drop_over, dropped, ended, finished, is_over, is_settled, next_read, read_on, record_read, released}
use Rattle.node_model.specs.History.{SealedBlock, ids_of}
use Rattle.node_model.specs.World.{Done, Dropped, Held, Job, JobStatus, Waiting, is_for, is_live, is_waiting, new_job, same_tx}
use Rattle.proc_syntax.specs.declared.call.Block.{Block}
use Rattle.proc_syntax.specs.declared.call.Tx.{Tx}
use Rattle.proc_syntax.specs.declared.tree.App.{App}
use Rattle.rel_base.specs.declared.access.Read as access
use Rattle.schedule_laws.proofs.Chains.{settled-known}
use Rattle.schedule_laws.proofs.Choosing.{early-none}
use Rattle.schedule_laws.proofs.Lists.{IsTame, for-same, same_tx-self}
use Rattle.schedule_laws.specs.Facts.{IsValid}
use Rattle.std.proofs.lemmas.Bool.{and_from, false≢true, or_parts}
use Rattle.std.proofs.lemmas.List.Folds.{list_any-append}
use Rattle.std.specs.List.{list_any}

-- ---- that no dropped job comes back

tame_cond : (b : Bool) (change one two : Job → Job) (job : Job) → change job ≡ cond b (one job) (two job) → IsTame one job → IsTame two job → IsTame change job
tame_cond b change one two job is s t = record {
  tx = ap (λ (x : Job). x.tx) is ∙ by_tx b;
  live = λ e. by_live b (sym (ap (λ (x : Job). is_live x.status) is) ∙ e);
}
  where
    by_tx : (b : Bool) → (cond b (one job) (two job)).tx ≡ job.tx
    by_tx true = s.tx
    by_tx false = t.tx

    by_live : (b : Bool) → is_live (cond b (one job) (two job)).status ≡ true → is_live job.status ≡ true
    by_live true e = s.live e
    by_live false e = t.live e

pub dropped_tame : (job : Job) → IsTame dropped job
dropped_tame job = record { tx = refl; live = λ e. absurd (false≢true e) }

pub claimed_tame : (actor : ℕ) (job : Job) → is_waiting job.status ≡ true → IsTame (claimed actor) job
claimed_tame actor job waits = record { tx = refl; live = λ e. by job.status waits } where
  by : (s : JobStatus) → is_waiting s ≡ true → is_live s ≡ true
  by Waiting h = refl
  by (Held holder) h = refl
  by Done h = refl
  by Dropped h = absurd (false≢true h)

pub read_tame : (app : App) (sealed : List SealedBlock) (job : Job) → IsTame (read_on app sealed) job
read_tame app sealed job = record { tx = tx_at (next_read app sealed job); live = live_at (next_read app sealed job) } where
  tx_at : (o : Option access.Read) → (record_read app sealed job o).tx ≡ job.tx
  tx_at None = refl
  tx_at (Some read) = refl

  live_at : (o : Option access.Read) → is_live (record_read app sealed job o).status ≡ true → is_live job.status ≡ true
  live_at None e = e
  live_at (Some read) e = e

pub finished_tame : (app : App) (sealed : List SealedBlock) (actor : ℕ) (job : Job) → job.status ≡ Held actor → IsTame (finished app sealed) job
finished_tame app sealed actor job held =
    tame_cond (is_settled job.tx.id sealed) (finished app sealed) dropped (λ (x : Job). record { tx = x.tx; status = Done; recorded = ended x.recorded (run_at app sealed x.tx) }) job refl (dropped_tame job)
    (record { tx = refl; live = λ e. ap is_live held })

pub released_tame : (sealed : List SealedBlock) (actor : ℕ) (job : Job) → job.status ≡ Held actor → IsTame (released sealed) job
released_tame sealed actor job held =
    tame_cond (is_settled job.tx.id sealed) (released sealed) dropped (λ (x : Job). new_job x.tx) job refl (dropped_tame job) (record { tx = refl; live = λ e. ap is_live held })

pub over_tame : (sealed : List SealedBlock) (job : Job) → IsTame (drop_over sealed) job
over_tame sealed job = tame_cond (is_over sealed job) (drop_over sealed) dropped (λ (x : Job). x) job refl (dropped_tame job) (record { tx = refl; live = λ e. e })

-- ---- that a valid transaction keeps its job

pub for_read : (app : App) (sealed : List SealedBlock) (tx : Tx) (job : Job) → is_for tx job ≡ true → is_for tx (read_on app sealed job) ≡ true
for_read app sealed tx job is = by (next_read app sealed job) where
  by : (o : Option access.Read) → is_for tx (record_read app sealed job o) ≡ true
  by None = is
  by (Some read) = is

pub for_unsettled : (sealed : List SealedBlock) (tx : Tx) (job one two : Job) → is_settled tx.id sealed ≡ false → is_for tx job ≡ true → is_live two.status ≡ true → two.tx ≡ job.tx
    → is_for tx (cond (is_settled job.tx.id sealed) one two) ≡ true
for_unsettled sealed tx job one two unsettled is live same =
    let e : job.tx ≡ tx = for-same tx job is in
    subst (λ b. is_for tx (cond b one two) ≡ true) (sym (ap (λ (t : Tx). is_settled t.id sealed) e ∙ unsettled))
    (and_from (is_live two.status) (same_tx two.tx tx) live (same_tx-self two.tx tx (same ∙ e)))

-- a valid transaction's id is not settled
pub valid_unsettled : (app : App) (sealed : List SealedBlock) (block : Block) (place : ℕ) (tx : Tx) → IsValid app sealed block place tx → is_settled tx.id sealed ≡ false
valid_unsettled app sealed block place tx valid =
    let ids = early-none app (ids_of sealed ++ map (λ (t : Tx). t.id) (take place block.txs)) block.number tx valid in
    settled-known tx.id sealed ∙ (or_parts (list_any (bytes_eq tx.id) (ids_of sealed)) _ (sym (list_any-append (bytes_eq tx.id) (ids_of sealed) _) ∙ ids.unknown)).0
