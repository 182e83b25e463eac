-- Each event keeps the facts.
use Rattle.std.proofs.Common.{Bool, IsSome, List, None, Option, Some, [], ap, append-nil, append_assoc, arith, bytes_eq, cond, false, length, length-append, map, refl, slice_get, subst, suc, sym, take, true, zero, ◌+◌, ◌++◌, ◌||◌, ◌∙◌, ◌≡◌, ◌∷◌, ℕ}
use Rattle.node_model.specs.Decide.{early}
use Rattle.node_model.specs.Events.{after, claimed, commit_next, decide_due, drop_over, finished, happens, is_settled, needs_no_job, read_on, released, with_jobs, with_sealed}
use Rattle.node_model.specs.Fold.{no_work, sealed_as}
use Rattle.node_model.specs.History.{SealedBlock, ids_of}
use Rattle.node_model.specs.Journals.{IsLegalFrom, world_from}
use Rattle.node_model.specs.World.{BlockInWork, Job, World, change_job, decided, empty, is_for, is_live, job_at, job_of, new_job, same_tx}
use Rattle.node_model.specs.declared.journal.Entry.{Entry}
use Rattle.node_model.specs.declared.journal.Event.TheVariants.{Arrive, Claim, Commit, Deliver, Finish, Read, Release, Seal}
use Rattle.node_model.specs.declared.journal.Event.{Event}
use Rattle.node_model.specs.declared.result.Told.{Told}
use Rattle.node_model.specs.declared.outcome.Outcome.{Outcome}
use Rattle.proc_syntax.specs.Call.{call_fault}
use Rattle.proc_syntax.specs.declared.call.Block.{Block}
use Rattle.proc_syntax.specs.declared.call.Tx.{Tx}
use Rattle.proc_syntax.specs.declared.tree.App.{App}
use Rattle.schedule_laws.proofs.Allowing.{steps_are_allowed}
use Rattle.schedule_laws.proofs.Chains.{counted-append, settled-known, shows-more}
use Rattle.schedule_laws.proofs.Choosing.{early-none}
use Rattle.schedule_laws.proofs.Fitting.{claimed_fits, finished_fits, new_fits, over_fits, read_fits, released_fits}
use Rattle.schedule_laws.proofs.Lists.{IsTame, apart-change, apart-map, apart-snoc, each-change, each-map, each-snoc, same_tx-self, some-change, some-last, some-snoc}
use Rattle.schedule_laws.proofs.Staying.{claimed_tame, finished_tame, for_read, for_unsettled, over_tame, read_tame, released_tame, valid_unsettled}
use Rattle.schedule_laws.specs.Allowed.{Allows}
use Rattle.schedule_laws.specs.Facts.{AreApart, AreCounted, EachJob, FactsHold, JobFits, WorkFits}
use Rattle.schedule_laws.specs.Laws.{FactsAlwaysHold, StepsKeepFacts}
use Rattle.std.proofs.lemmas.Bool.{and_from, and_parts, or_parts}
use Rattle.std.proofs.lemmas.List.Folds.{list_any-append}
use Rattle.std.proofs.lemmas.List.{map-append}
use Rattle.std.proofs.lemmas.Option.{none-some, same_Some, slice_get_within}
use Rattle.std.specs.List.{list_any}
use Rattle.std.specs.Option.{is_some}
use Rattle.rel_base.proofs.Lists.{not_some}

-- ---- delivery

module _ (app : App) (number : ℕ) (known : List (List ℕ)) (Q : List Job → Type 0) where
  -- what a new job keeps, whose call can begin and whose id is none of some ids
  abbrev NewJobKeeps : Type 0
  NewJobKeeps = (tx : Tx) (jobs : List Job) → call_fault app tx ≡ None → list_any (bytes_eq tx.id) known ≡ false → job_of tx jobs ≡ None → Q jobs → Q (jobs ++ new_job tx ∷ [])

  grown_from : NewJobKeeps → (more : List (List ℕ)) (txs : List Tx) (jobs : List Job) → Q jobs → Q (with_jobs app (known ++ more) number txs jobs)
  grown_from keep more [] jobs q = q
  grown_from keep more (tx ∷ txs) jobs q =
      subst (λ ids. Q (with_jobs app ids number txs (cond (needs_no_job app (known ++ more) number jobs tx) jobs (jobs ++ new_job tx ∷ [])))) (sym (append_assoc known more (tx.id ∷ [])))
      (grown_from keep (more ++ tx.id ∷ []) txs _ (by (early app (known ++ more) number tx) (is_some (job_of tx jobs)) refl refl))
    where
      by : (cause : Option Outcome) (b : Bool) → early app (known ++ more) number tx ≡ cause → is_some (job_of tx jobs) ≡ b → Q (cond (is_some cause || b) jobs (jobs ++ new_job tx ∷ []))
      by (Some cause) b is e = q
      by None true is e = q
      by None false is e =
          let runs = early-none app (known ++ more) number tx is in
          keep tx jobs runs.can (or_parts (list_any (bytes_eq tx.id) known) _ (sym (list_any-append (bytes_eq tx.id) known more) ∙ runs.unknown)).0 (not_some (job_of tx jobs) e) q

  -- a delivery keeps it
  pub grown : NewJobKeeps → (txs : List Tx) (jobs : List Job) → Q jobs → Q (with_jobs app known number txs jobs)
  grown keep txs jobs q = subst (λ ids. Q (with_jobs app ids number txs jobs)) (append-nil known) (grown_from keep [] txs jobs q)

has_job : (app : App) (ids : List (List ℕ)) (number : ℕ) (tx : Tx) (jobs : List Job) → early app ids number tx ≡ None
    → IsSome (job_of tx (cond (needs_no_job app ids number jobs tx) jobs (jobs ++ new_job tx ∷ [])))
has_job app ids number tx jobs valid =
    subst (λ cause. IsSome (job_of tx (cond (is_some cause || is_some (job_of tx jobs)) jobs (jobs ++ new_job tx ∷ [])))) (sym valid) (by (is_some (job_of tx jobs)) refl) where
      by : (b : Bool) → is_some (job_of tx jobs) ≡ b → IsSome (job_of tx (cond b jobs (jobs ++ new_job tx ∷ [])))
      by true e = e
      by false e = some-last tx jobs (new_job tx) (same_tx-self tx tx refl)

have_jobs : (app : App) (ids : List (List ℕ)) (number : ℕ) (txs : List Tx) (jobs : List Job) (place : ℕ) (tx : Tx) → slice_get txs place ≡ Some tx
    → early app (ids ++ map (λ tx. tx.id) (take place txs)) number tx ≡ None → IsSome (job_of tx (with_jobs app ids number txs jobs))
have_jobs app ids number [] jobs place tx here valid = absurd (none-some tx here)
have_jobs app ids number (t ∷ ts) jobs zero tx here valid =
    grown app number (ids ++ t.id ∷ []) (λ js. IsSome (job_of tx js)) (λ u js can new e s. some-snoc tx js (new_job u) s) ts _
    (subst (λ u. IsSome (job_of u (cond (needs_no_job app ids number jobs t) jobs (jobs ++ new_job t ∷ [])))) (same_Some t tx here)
    (has_job app ids number t jobs (subst (λ u. early app ids number u ≡ None) (sym (same_Some t tx here)) (ap (λ known. early app known number tx) (sym (append-nil ids)) ∙ valid))))
have_jobs app ids number (t ∷ ts) jobs (suc place) tx here valid =
    have_jobs app (ids ++ t.id ∷ []) number ts _ place tx here (ap (λ known. early app known number tx) (append_assoc ids (t.id ∷ []) (map (λ tx. tx.id) (take place ts))) ∙ valid)

-- ---- the next transaction

pub get-take : (xs : List Tx) (n : ℕ) (x : Tx) → slice_get xs n ≡ Some x → (take (suc n) xs ≡ take n xs ++ x ∷ []) × (length (take n xs) ≡ n)
get-take [] n x e = absurd (none-some x e)
get-take (y ∷ ys) zero x e = (ap (λ z. z ∷ []) (same_Some y x e), refl)
get-take (y ∷ ys) (suc n) x e = let r = get-take ys n x e in (ap (λ zs. y ∷ zs) r.0, ap suc r.1)

-- the block in work with one more transaction decided
pub one_more : (app : App) (w : World) (work : BlockInWork) (tx : Tx) → decided (decide_due app w.sealed w.jobs work (Some tx)) ≡ suc (decided work)
one_more app w work tx = longer work.done.outcomes _ where
  longer : (xs : List Told) (x : Told) → length (xs ++ x ∷ []) ≡ suc (length xs)
  longer xs x = let l = length-append xs (x ∷ []) in omega (arith, l)

-- ---- each event

module _ (app : App) (w : World) (actor : ℕ) (facts : FactsHold app w) where
  -- other jobs, in which no valid transaction lost its own
  with_others : (jobs : List Job) → EachJob (JobFits app w.sealed) jobs → AreApart jobs
      → ((tx : Tx) → is_settled tx.id w.sealed ≡ false → IsSome (job_of tx w.jobs) → IsSome (job_of tx jobs)) → FactsHold app (record w { jobs = jobs })
  with_others jobs fit apart keep = record {
    counted = facts.counted;
    jobs_fit = fit;
    apart = apart;
    work_fits = λ work is. let fits = facts.work_fits work is in record {
      next = fits.next;
      told = fits.told;
      within = fits.within;
      have_jobs = λ place tx from at valid. keep tx (valid_unsettled app w.sealed work.block place tx valid) (fits.have_jobs place tx from at valid);
    };
  }

  on_change : (number : ℕ) (change : Job → Job) (job : Job) → job_at w.jobs number ≡ Some job → (JobFits app w.sealed job → JobFits app w.sealed (change job)) → IsTame change job
      → ((tx : Tx) → is_settled tx.id w.sealed ≡ false → is_for tx job ≡ true → is_for tx (change job) ≡ true) → FactsHold app (record w { jobs = change_job change w.jobs number })
  on_change number change job here fits tame stays =
      with_others (change_job change w.jobs number) (each-change (JobFits app w.sealed) w.jobs number change job here facts.jobs_fit fits)
      (apart-change w.jobs number change job here tame facts.apart) (λ tx unsettled some. some-change tx w.jobs number change job here (stays tx unsettled) some)

  -- the block in work, once its next transaction is decided
  module _ (work : BlockInWork) (tx : Tx) (in_work : w.work ≡ Some work) (is_due : slice_get work.block.txs (decided work) ≡ Some tx) where
    abbrev new : BlockInWork
    new = decide_due app w.sealed w.jobs work (Some tx)

    committed_fits : WorkFits app (record w { work = Some new }) new
    committed_fits =
        let fits = facts.work_fits work in_work in
        let more = one_more app w work tx in
        let first = get-take work.block.txs (decided work) tx is_due in
        let inside = slice_get_within work.block.txs (decided work) tx is_due in
        record {
          next = fits.next;
          told = map-append (λ (told : Told). told.id) work.done.outcomes (_ ∷ []) ∙ (ap (λ ids. ids ++ tx.id ∷ []) fits.told
              ∙ (sym (map-append (λ (t : Tx). t.id) (take (decided work) work.block.txs) (tx ∷ []))
              ∙ ap (map (λ (t : Tx). t.id)) (sym first.0 ∙ ap (λ n. take n work.block.txs) (sym more))));
          within = omega (arith, more, inside);
          have_jobs = λ place t from at valid. fits.have_jobs place t (omega (arith, from, more)) at valid;
        }

    committed : FactsHold app (record w { work = Some new })
    committed = record {
      counted = facts.counted;
      jobs_fit = facts.jobs_fit;
      apart = facts.apart;
      work_fits = λ work is. subst (WorkFits app (record w { work = Some new })) (same_Some new work is) committed_fits;
    }

  -- all sealed, with the block in work
  module _ (work : BlockInWork) (in_work : w.work ≡ Some work) where
    abbrev all : List SealedBlock
    all = w.sealed ++ sealed_as work.block work.done ∷ []

    all_counted : AreCounted 1 all
    all_counted =
        let next = (facts.work_fits work in_work).next in
        counted-append 1 w.sealed (sealed_as work.block work.done ∷ []) facts.counted (omega (arith, next), tt)

    sealed_facts : FactsHold app (record { sealed = all; work = None; jobs = map (drop_over all) w.jobs; journal = w.journal })
    sealed_facts = record {
      counted = all_counted;
      jobs_fit = each-map (JobFits app w.sealed) (JobFits app all) w.jobs (drop_over all) facts.jobs_fit
          (over_fits app w.sealed (sealed_as work.block work.done ∷ []) (shows-more app w.sealed (sealed_as work.block work.done ∷ []) all_counted));
      apart = apart-map w.jobs (drop_over all) (over_tame all) facts.apart;
      work_fits = λ work is. absurd (none-some work is);
    }

  -- a block in work, of which nothing is decided
  delivered_facts : (block : Block) → block.number ≡ length w.sealed + 1
      → FactsHold app (record w { work = Some (record { block = block; done = no_work }); jobs = with_jobs app (ids_of w.sealed) block.number block.txs w.jobs })
  delivered_facts block next = record {
    counted = facts.counted;
    jobs_fit = grown app block.number (ids_of w.sealed) (EachJob (JobFits app w.sealed))
        (λ tx jobs can new e all. each-snoc (JobFits app w.sealed) jobs (new_job tx) all (new_fits app w.sealed tx can (settled-known tx.id w.sealed ∙ new))) block.txs w.jobs facts.jobs_fit;
    apart = grown app block.number (ids_of w.sealed) AreApart (λ tx jobs can new e all. apart-snoc jobs (new_job tx) e all) block.txs w.jobs facts.apart;
    work_fits = λ work is. subst (WorkFits app (record w { work = Some (record { block = block; done = no_work }); jobs = with_jobs app (ids_of w.sealed) block.number block.txs w.jobs })) (same_Some _ work is) (record {
      next = next;
      told = sym (ap (map (λ (t : Tx). t.id)) (take-none block.txs));
      within = omega arith;
      have_jobs = λ place tx from at valid. have_jobs app (ids_of w.sealed) block.number block.txs w.jobs place tx at valid;
    });
  }
    where
      take-none : (xs : List Tx) → take 0 xs ≡ []
      take-none [] = refl
      take-none (x ∷ xs) = refl

  keeps : (event : Event) → Allows app w actor event → FactsHold app (happens app w actor event)
  keeps (Arrive number tx) a =
      with_others (w.jobs ++ new_job tx.value ∷ []) (each-snoc (JobFits app w.sealed) w.jobs (new_job tx.value) facts.jobs_fit (new_fits app w.sealed tx.value a.1.can a.1.not_settled))
      (apart-snoc w.jobs (new_job tx.value) a.1.no_job facts.apart) (λ t unsettled some. some-snoc t w.jobs (new_job tx.value) some)
  keeps (Claim number) a =
      on_change number (claimed actor) a.job a.stands (claimed_fits app w.sealed actor a.job a.low) (claimed_tame actor a.job a.waits)
      (λ tx unsettled is. and_from true (same_tx a.job.tx tx) refl (and_parts (is_live a.job.status) (same_tx a.job.tx tx) is).1)
  keeps (Read number) a =
      on_change number (read_on app w.sealed) a.job a.holds.stands (read_fits app w.sealed actor a.job a.holds.held a.next) (read_tame app w.sealed a.job)
      (λ tx unsettled is. for_read app w.sealed tx a.job is)
  keeps (Finish number) a =
      on_change number (finished app w.sealed) a.job a.holds.stands (finished_fits app w.sealed actor a.job a.holds.held a.at_end) (finished_tame app w.sealed actor a.job a.holds.held)
      (λ tx unsettled is. for_unsettled w.sealed tx a.job _ _ unsettled is refl refl)
  keeps (Release number) a =
      on_change number (released w.sealed) a.0 a.1.stands (released_fits app w.sealed a.0) (released_tame w.sealed actor a.0 a.1.held)
      (λ tx unsettled is. for_unsettled w.sealed tx a.0 _ _ unsettled is refl refl)
  keeps (Deliver block) a = delivered_facts block.value a.2
  keeps (Commit pos) a =
      let can = a.1 in
      subst (λ o. FactsHold app (record w { work = commit_next app w.sealed w.jobs o })) (sym can.in_work)
      (subst (λ t. FactsHold app (record w { work = Some (decide_due app w.sealed w.jobs can.work t) })) (sym can.is_due) (committed can.work can.tx can.in_work can.is_due))
  keeps (Seal number) a =
      let can = a.1 in
      subst (λ o. FactsHold app (record { sealed = with_sealed w.sealed o; work = None; jobs = map (drop_over (with_sealed w.sealed o)) w.jobs; journal = w.journal })) (sym can.in_work)
      (sealed_facts can.work can.in_work)

-- the facts do not speak of the journal
any_journal : (app : App) (w : World) (journal : List Entry) → FactsHold app w → FactsHold app (record w { journal = journal })
any_journal app w journal facts = record {
  counted = facts.counted;
  jobs_fit = facts.jobs_fit;
  apart = facts.apart;
  work_fits = λ work is. let fits = facts.work_fits work is in record { next = fits.next; told = fits.told; within = fits.within; have_jobs = fits.have_jobs };
}

pub steps_keep_facts : StepsKeepFacts
steps_keep_facts app w entry facts step =
    any_journal app (happens app w entry.actor entry.event) (w.journal ++ entry ∷ []) (keeps app w entry.actor facts entry.event (steps_are_allowed app w entry facts step))

pub facts_from : (app : App) (w : World) (journal : List Entry) → FactsHold app w → IsLegalFrom app w journal → FactsHold app (world_from app w journal)
facts_from app w [] facts legal = facts
facts_from app w (entry ∷ entries) facts legal = facts_from app (after app w entry) entries (steps_keep_facts app w entry facts legal.0) legal.1

pub first_facts : (app : App) → FactsHold app empty
first_facts app = record {
  counted = tt;
  jobs_fit = none_fits;
  apart = λ i j one two at_i. absurd (none_at i one at_i);
  work_fits = λ work is. absurd (none-some work is);
}
  where
    none_at : (number : ℕ) (job : Job) → job_at [] number ≡ Some job → ⊥
    none_at zero job e = none-some job e
    none_at (suc n) job e = none-some job e

    none_fits : EachJob (JobFits app []) []
    none_fits number job e = absurd (none_at number job e)

pub facts_always_hold : FactsAlwaysHold
facts_always_hold app journal legal = facts_from app empty journal (first_facts app) legal
