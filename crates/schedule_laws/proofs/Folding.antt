-- Whatever the schedule, what is sealed is the fold of what was delivered.
use Rattle.std.proofs.Common.{List, None, Option, Some, [], ap, append-nil, append_assoc, arith, drop, inl, inr, length, length-append, map, refl, slice_get, subst, suc, sym, take, true, zero, ◌+◌, ◌++◌, ◌∙◌, ◌≡◌, ◌∷◌, ℕ}
use Rattle.node_model.specs.Decide.{run_at}
use Rattle.node_model.specs.Events.{after, commit_next, decide_due, drop_over, recorded_ran, with_sealed}
use Rattle.node_model.specs.Fold.{Work, fold, no_work, seal, sealed_as, work_by, work_on, work_through}
use Rattle.node_model.specs.History.{SealedBlock}
use Rattle.node_model.specs.Journals.{IsLegal, IsLegalFrom, delivered, delivery, world, world_from}
use Rattle.node_model.specs.Steps.{early_cause, is_done_job, is_ready}
use Rattle.node_model.specs.World.{BlockInWork, Job, World, decided, due, empty, is_done, job_of}
use Rattle.node_model.specs.declared.journal.Entry.{Entry}
use Rattle.node_model.specs.declared.journal.Event.TheVariants.{Arrive, Claim, Commit, Deliver, Finish, Read, Release, Seal}
use Rattle.node_model.specs.declared.journal.Event.{Event}
use Rattle.node_model.specs.declared.result.Told.{Told}
use Rattle.proc_syntax.specs.declared.call.Block.{Block}
use Rattle.proc_syntax.specs.declared.call.Tx.{Tx}
use Rattle.proc_syntax.specs.declared.tree.App.{App}
use Rattle.schedule_laws.proofs.Allowing.{steps_are_allowed}
use Rattle.schedule_laws.proofs.Cutting.{early_decides, records_decide}
use Rattle.schedule_laws.proofs.Facts.{first_facts, get-take, one_more, steps_keep_facts}
use Rattle.schedule_laws.proofs.Lists.{each-job_of, for-same, job_of-is}
use Rattle.schedule_laws.specs.Allowed.{Allows, CanCommit}
use Rattle.schedule_laws.specs.Facts.{FactsHold, JobFits}
use Rattle.schedule_laws.specs.Laws.{SchedulesFold, WorldsHaveJournals}
use Rattle.schedule_laws.specs.Records.{TellsRun}
use Rattle.schedule_laws.specs.Scheduled.{IsOfFold, block_in}
use Rattle.serial_laws.proofs.Growing.{fold_more}
use Rattle.serial_laws.specs.Chained.{AreNumbered}
use Rattle.std.proofs.lemmas.Bool.{false≢true, or_cases}
use Rattle.std.proofs.lemmas.List.{drop_at, take-append-drop, take_at}
use Rattle.std.proofs.lemmas.Option.{none-some, same_Some}
use Rattle.std.specs.Option.{is_some}

-- ---- a block, transaction by transaction

module _ (app : App) (chain : List SealedBlock) (number : ℕ) where
  through-append : (xs ys : List Tx) (work : Work) → work_through app chain number work (xs ++ ys) ≡ work_through app chain number (work_through app chain number work xs) ys
  through-append [] ys work = refl
  through-append (x ∷ xs) ys work = through-append xs ys (work_on app chain number work x)

  -- outcomes are only added
  only_added : (xs : List Tx) (work : Work) → (more : List Told) × ((work_through app chain number work xs).outcomes ≡ work.outcomes ++ more)
  only_added [] work = ([], sym (append-nil work.outcomes))
  only_added (x ∷ xs) work = let m = only_added xs (work_on app chain number work x) in (_ ∷ m.0, m.1 ∙ append_assoc work.outcomes (_ ∷ []) m.0)

-- what the first transactions of a block come to
abbrev at_first : App → List SealedBlock → Block → ℕ → Work
at_first app chain block n = work_through app chain block.number no_work (take n block.txs)

take-none : (xs : List Tx) → take 0 xs ≡ []
take-none [] = refl
take-none (x ∷ xs) = refl

get-none : (xs : List Tx) (n : ℕ) → slice_get xs n ≡ None → take n xs ≡ xs
get-none [] zero e = refl
get-none [] (suc n) e = refl
get-none (y ∷ ys) zero e = absurd (none-some y (sym e))
get-none (y ∷ ys) (suc n) e = ap (λ zs. y ∷ zs) (get-none ys n e)

-- ---- what a commit goes by

-- what is recorded of the done job of a transaction tells its run
done_tells : (app : App) (w : World) (tx : Tx) (job : Job) → FactsHold app w → job_of tx w.jobs ≡ Some job → is_done job.status ≡ true → TellsRun app w.sealed tx job.recorded
done_tells app w tx job facts found done =
    let fits = each-job_of (JobFits app w.sealed) tx w.jobs job facts.jobs_fit found in
    subst (λ (t : Tx). TellsRun app w.sealed t job.recorded) (for-same tx job (job_of-is tx w.jobs job found)) (record { if_whole = fits.whole done; if_cut = fits.cut })

-- what is decided by the record of a ready transaction is what its run decides
ready_decides : (app : App) (w : World) (work : BlockInWork) (tx : Tx) → FactsHold app w → work.block.number ≡ length w.sealed + 1 → is_ready app w work tx ≡ true
    → work_by app w.sealed work.block.number work.done tx (recorded_ran (job_of tx w.jobs)) ≡ work_on app w.sealed work.block.number work.done tx
ready_decides app w work tx facts next ready =
    elim (or_cases (is_some (early_cause app w work tx)) (is_done_job (job_of tx w.jobs)) ready) [
      | inl early ↦ early_decides app w.sealed work.block.number work.done tx (recorded_ran (job_of tx w.jobs)) (run_at app w.sealed tx) early
      | inr done ↦ by (job_of tx w.jobs) refl done
    ]
  where
    by : (found : Option Job) → job_of tx w.jobs ≡ found → is_done_job found ≡ true
        → work_by app w.sealed work.block.number work.done tx (recorded_ran found) ≡ work_on app w.sealed work.block.number work.done tx
    by None is done = absurd (false≢true done)
    by (Some job) is done =
        subst (λ n. work_by app w.sealed n work.done tx job.recorded.ran ≡ work_on app w.sealed n work.done tx) (sym next)
        (records_decide app w.sealed work.done tx job.recorded (done_tells app w tx job facts is done))

-- ---- what every step keeps

pub record FollowsTheFold (app : App) (w : World) : Type 0 where
  pub blocks : List Block
  pub delivered_are : delivered w.journal ≡ blocks ++ block_in w.work
  pub sealed : w.sealed ≡ fold app blocks
  pub count : length w.sealed ≡ length blocks
  pub numbered : AreNumbered 1 blocks
  pub so_far : (work : BlockInWork) → w.work ≡ Some work → work.done ≡ at_first app w.sealed work.block (decided work)

pub delivered-append : (one two : List Entry) → delivered (one ++ two) ≡ delivered one ++ delivered two
delivered-append [] two = refl
delivered-append (entry ∷ one) two = ap (λ rest. delivery entry.event ++ rest) (delivered-append one two) ∙ sym (append_assoc (delivery entry.event) (delivered one) (delivered two))

delivered-snoc : (xs : List Entry) (entry : Entry) → delivered (xs ++ entry ∷ []) ≡ delivered xs ++ delivery entry.event
delivered-snoc [] entry = append-nil (delivery entry.event)
delivered-snoc (x ∷ xs) entry = ap (λ blocks. delivery x.event ++ blocks) (delivered-snoc xs entry) ∙ sym (append_assoc (delivery x.event) (delivered xs) (delivery entry.event))

numbered-snoc : (n : ℕ) (blocks : List Block) (block : Block) → AreNumbered n blocks → block.number ≡ n + length blocks → AreNumbered n (blocks ++ block ∷ [])
numbered-snoc n [] block before is = (omega (arith, is), tt)
numbered-snoc n (x ∷ xs) block before is = (before.0, numbered-snoc (n + 1) xs block before.1 (omega (arith, is)))

block_of_due : (app : App) (sealed : List SealedBlock) (jobs : List Job) (work : BlockInWork) (t : Option Tx) → (decide_due app sealed jobs work t).block ≡ work.block
block_of_due app sealed jobs work None = refl
block_of_due app sealed jobs work (Some tx) = refl

block_in_next : (app : App) (sealed : List SealedBlock) (jobs : List Job) (o : Option BlockInWork) → block_in (commit_next app sealed jobs o) ≡ block_in o
block_in_next app sealed jobs None = refl
block_in_next app sealed jobs (Some work) = ap (λ block. block ∷ []) (block_of_due app sealed jobs work (due work))

module _ (app : App) (w : World) (actor : ℕ) (facts : FactsHold app w) (goes : FollowsTheFold app w) where
  abbrev with_entry : Event → List Entry
  with_entry event = w.journal ++ record { actor = actor; event = event } ∷ []

  -- an event that delivers nothing
  quiet : (event : Event) → delivery event ≡ [] → delivered (with_entry event) ≡ goes.blocks ++ block_in w.work
  quiet event none =
      delivered-snoc w.journal (record { actor = actor; event = event })
      ∙ (ap (λ blocks. delivered w.journal ++ blocks) none ∙ (append-nil (delivered w.journal) ∙ goes.delivered_are))

  -- an event of jobs alone
  of_jobs : (event : Event) (jobs : List Job) → delivery event ≡ [] → FollowsTheFold app (record w { jobs = jobs; journal = with_entry event })
  of_jobs event jobs none = record {
    blocks = goes.blocks;
    delivered_are = quiet event none;
    sealed = goes.sealed;
    count = goes.count;
    numbered = goes.numbered;
    so_far = goes.so_far;
  }

  -- a commit
  module _ (pos : ℕ) (can : CanCommit app w pos) where
    abbrev new : BlockInWork
    new = decide_due app w.sealed w.jobs can.work (Some can.tx)

    next_is : commit_next app w.sealed w.jobs w.work ≡ Some new
    next_is = ap (commit_next app w.sealed w.jobs) can.in_work ∙ ap (λ t. Some (decide_due app w.sealed w.jobs can.work t)) can.is_due

    new_is : new.done ≡ at_first app w.sealed can.work.block (decided new)
    new_is =
        let number = can.work.block.number in
        let first = get-take can.work.block.txs (decided can.work) can.tx can.is_due in
        ready_decides app w can.work can.tx facts (facts.work_fits can.work can.in_work).next can.ready
        ∙ (ap (λ (work : Work). work_on app w.sealed number work can.tx) (goes.so_far can.work can.in_work)
        ∙ (sym (through-append app w.sealed number (take (decided can.work) can.work.block.txs) (can.tx ∷ []) no_work)
        ∙ (ap (work_through app w.sealed number no_work) (sym first.0)
        ∙ ap (at_first app w.sealed can.work.block) (sym (one_more app w can.work can.tx)))))

    committed_goes : FollowsTheFold app (record w { work = commit_next app w.sealed w.jobs w.work; journal = with_entry (Commit pos) })
    committed_goes = record {
      blocks = goes.blocks;
      delivered_are = quiet (Commit pos) refl ∙ ap (λ blocks. goes.blocks ++ blocks) (sym (block_in_next app w.sealed w.jobs w.work));
      sealed = goes.sealed;
      count = goes.count;
      numbered = goes.numbered;
      so_far = λ work is. subst (λ (x : BlockInWork). x.done ≡ at_first app w.sealed x.block (decided x)) (same_Some new work (sym next_is ∙ is)) new_is;
    }

  -- a seal
  module _ (number : ℕ) (work : BlockInWork) (in_work : w.work ≡ Some work) (all_decided : due work ≡ None) where
    all_folded : w.sealed ++ sealed_as work.block work.done ∷ [] ≡ fold app (goes.blocks ++ work.block ∷ [])
    all_folded =
        let whole : work.done ≡ work_through app w.sealed work.block.number no_work work.block.txs =
        goes.so_far work in_work ∙ ap (work_through app w.sealed work.block.number no_work) (get-none work.block.txs (decided work) all_decided) in
        ap (λ done. w.sealed ++ sealed_as work.block done ∷ []) whole
        ∙ (ap (λ chain. chain ++ seal app chain work.block ∷ []) goes.sealed ∙ sym (fold_more app goes.blocks work.block []))

    sealed_goes : (jobs : List Job) → FollowsTheFold app (record { sealed = w.sealed ++ sealed_as work.block work.done ∷ []; work = None; jobs = jobs; journal = with_entry (Seal number) })
    sealed_goes jobs =
        let next = (facts.work_fits work in_work).next in
        let same = goes.count in
        let longer = length-append w.sealed (sealed_as work.block work.done ∷ []) in
        let more = length-append goes.blocks (work.block ∷ []) in
        record {
          blocks = goes.blocks ++ work.block ∷ [];
          delivered_are = quiet (Seal number) refl ∙ (ap (λ o. goes.blocks ++ block_in o) in_work ∙ sym (append-nil (goes.blocks ++ work.block ∷ [])));
          sealed = all_folded;
          count = omega (arith, same, longer, more);
          numbered = numbered-snoc 1 goes.blocks work.block goes.numbered (omega (arith, next, same));
          so_far = λ work is. absurd (none-some work is);
        }

  goes_on : (event : Event) → Allows app w actor event → FollowsTheFold app (after app w (record { actor = actor; event = event }))
  goes_on (Arrive number tx) a = of_jobs (Arrive number tx) _ refl
  goes_on (Claim number) a = of_jobs (Claim number) _ refl
  goes_on (Read number) a = of_jobs (Read number) _ refl
  goes_on (Finish number) a = of_jobs (Finish number) _ refl
  goes_on (Release number) a = of_jobs (Release number) _ refl
  goes_on (Deliver block) a = record {
    blocks = goes.blocks;
    delivered_are = delivered-snoc w.journal (record { actor = actor; event = Deliver block })
        ∙ ap (λ blocks. blocks ++ block.value ∷ []) (goes.delivered_are ∙ (ap (λ o. goes.blocks ++ block_in o) a.1 ∙ append-nil goes.blocks));
    sealed = goes.sealed;
    count = goes.count;
    numbered = goes.numbered;
    so_far = λ work is. subst (λ (x : BlockInWork). x.done ≡ at_first app w.sealed x.block (decided x)) (same_Some (record { block = block.value; done = no_work }) work is)
        (sym (ap (work_through app w.sealed block.value.number no_work) (take-none block.value.txs)));
  }
  goes_on (Commit pos) a = committed_goes pos a.1
  goes_on (Seal number) a =
      subst (λ o. FollowsTheFold app (record { sealed = with_sealed w.sealed o; work = None; jobs = map (drop_over (with_sealed w.sealed o)) w.jobs; journal = with_entry (Seal number) })) (sym a.1.in_work)
      (sealed_goes number a.1.work a.1.in_work a.1.all_decided _)

pub record Both (app : App) (w : World) : Type 0 where
  pub facts : FactsHold app w
  pub goes : FollowsTheFold app w

both_from : (app : App) (w : World) (journal : List Entry) → Both app w → IsLegalFrom app w journal → Both app (world_from app w journal)
both_from app w [] both legal = both
both_from app w (entry ∷ entries) both legal =
    both_from app (after app w entry) entries
    (record {
      facts = steps_keep_facts app w entry both.facts legal.0;
      goes = goes_on app w entry.actor both.facts both.goes entry.event (steps_are_allowed app w entry both.facts legal.0);
    })
    legal.1

journal-from : (app : App) (w : World) (journal : List Entry) → (world_from app w journal).journal ≡ w.journal ++ journal
journal-from app w [] = sym (append-nil w.journal)
journal-from app w (entry ∷ entries) = journal-from app (after app w entry) entries ∙ append_assoc w.journal (entry ∷ []) entries

pub worlds_have_journals : WorldsHaveJournals
worlds_have_journals app journal = journal-from app empty journal

pub reached : (app : App) (journal : List Entry) → IsLegal app journal → Both app (world app journal)
reached app journal legal =
    both_from app empty journal
    (record { facts = first_facts app; goes = record { blocks = []; delivered_are = refl; sealed = refl; count = refl; numbered = tt; so_far = λ work is. absurd (none-some work is) } }) legal

-- ---- the laws

outcomes-first : (app : App) (chain : List SealedBlock) (work : BlockInWork) → work.done ≡ at_first app chain work.block (decided work) → work.done.outcomes ≡ take (decided work) (seal app chain work.block).outcomes
outcomes-first app chain work is =
    let n : ℕ = decided work in
    let all = ap (work_through app chain work.block.number no_work) (sym (take-append-drop n work.block.txs))
    ∙ through-append app chain work.block.number (take n work.block.txs) (drop n work.block.txs) no_work in
    let more = only_added app chain work.block.number (drop n work.block.txs) (at_first app chain work.block n) in
    let outcomes : (seal app chain work.block).outcomes ≡ work.done.outcomes ++ more.0 =
    ap (λ (x : Work). x.outcomes) all ∙ (more.1 ∙ ap (λ (x : Work). x.outcomes ++ more.0) (sym is)) in
    sym (ap (take n) outcomes ∙ take_at work.done.outcomes more.0 n refl)

module _ (app : App) (journal : List Entry) (legal : IsLegal app journal) where
  abbrev w : World
  w = world app journal

  abbrev both : Both app w
  both = reached app journal legal

  pub delivered_are : delivered journal ≡ both.goes.blocks ++ block_in w.work
  delivered_are = ap delivered (sym (worlds_have_journals app journal)) ∙ both.goes.delivered_are

  pub first_are : take (length w.sealed) (delivered journal) ≡ both.goes.blocks
  first_are = ap (take (length w.sealed)) delivered_are ∙ take_at both.goes.blocks (block_in w.work) (length w.sealed) (sym both.goes.count)

  all_numbered : (o : Option BlockInWork) → w.work ≡ o → AreNumbered 1 (both.goes.blocks ++ block_in o)
  all_numbered None is = subst (AreNumbered 1) (sym (append-nil both.goes.blocks)) both.goes.numbered
  all_numbered (Some work) is =
      let next = (both.facts.work_fits work is).next in
      let same = both.goes.count in
      numbered-snoc 1 both.goes.blocks work.block both.goes.numbered (omega (arith, next, same))

  folds : IsOfFold app journal w
  folds = record {
    sealed = both.goes.sealed ∙ ap (fold app) (sym first_are);
    in_work = ap (drop (length w.sealed)) delivered_are ∙ drop_at both.goes.blocks (block_in w.work) (length w.sealed) (sym both.goes.count);
    so_far = λ work is. record { done = both.goes.so_far work is; first = outcomes-first app w.sealed work (both.goes.so_far work is) };
    numbered = subst (AreNumbered 1) (sym delivered_are) (all_numbered w.work refl);
  }

pub schedules_fold : SchedulesFold
schedules_fold = folds
