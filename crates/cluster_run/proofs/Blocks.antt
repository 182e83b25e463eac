-- The turns of the processor with blocks.
use Rattle.std.proofs.Common.{Bool, Err, IfOk, List, None, Ok, OnErr, OnOk, Option, Result, Some, [], ap, append-nil, arith, cond, false, inl, inr, length, map, refl, subst, sym, true, ◌+◌, ◌++◌, ◌==◌, ◌∙◌, ◌≡◌, ◌∷◌, ℕ}
use Rattle.std.proofs.lemmas.Bool.{eq-eqb, false≢true}
use Rattle.std.proofs.lemmas.Option.{none-some}
use Rattle.std.specs.Option.{option_and_then}
use Rattle.cluster_run.proofs.Made.{turn_makes}
use Rattle.cluster_run.proofs.Quiet.{step_blocks}
use Rattle.cluster_run.proofs.Turning.{answer_is, at_work, finds_none, found_later, look_blocks, look_none, step_delivers, step_none, step_state}
use Rattle.cluster_run.specs.Standing.{AllDecided, HasMade, HasNone, IsTrue, SameBlocks, Says, delivered_by, in_work, state_seen}
use Rattle.node_core.specs.Answers.{decided_as, delivered_as, sealed_as}
use Rattle.node_core.specs.Core.{Core, entries_for}
use Rattle.node_core.specs.declared.answers.Decided.TheVariants as answered
use Rattle.node_core.specs.declared.answers.Decided.{Decided}
use Rattle.node_core.specs.declared.answers.Delivered.{Delivered}
use Rattle.node_core.specs.declared.answers.Sealed as answers
use Rattle.node_model.specs.Events.{drop_over, dropped, is_over, needs_no_job, with_jobs, with_sealed}
use Rattle.node_model.specs.History.{SealedBlock, ids_of}
use Rattle.node_model.specs.Journals.{delivered, world}
use Rattle.node_model.specs.Steps as steps
use Rattle.node_model.specs.Steps.{Answer, Reply, Shared, ToCommit, ToDeliver, ToSeal, commits, commits_due, delivers, is_ready, noted, seals, seals_due}
use Rattle.node_model.specs.World.{BlockInWork, Holds, HoldsNone, Job, World, decided, due, is_held, job_at, new_job}
use Rattle.node_model.specs.declared.journal.Entry.{Entry}
use Rattle.node_model.specs.declared.journal.Event.TheVariants.{Commit, Deliver}
use Rattle.node_model.specs.declared.journal.Event.{Event}
use Rattle.node_shared.specs.Turn.{IsDelivery, IsLook, IsTurn}
use Rattle.proc_syntax.specs.declared.call.Block.{Block}
use Rattle.proc_syntax.specs.declared.call.Tx.{Tx}
use Rattle.proc_syntax.specs.declared.tree.App.{App}
use Rattle.rel_base.specs.declared.storied.Storied.{Ghosts}
use Rattle.schedule_laws.proofs.Asking.{own_deliveries}
use Rattle.schedule_laws.proofs.Folding.{delivered_are, reached}
use Rattle.schedule_laws.proofs.Lists.{job-map, job-snoc}
use Rattle.schedule_laws.specs.Scheduled.{block_in}
use Rattle.schedule_laws.specs.Stable.{entries_by}
use Rattle.turn_lock.specs.Passes.{IsSamePass, mine, pass_base, pass_number, seen}
use Rattle.turn_lock.specs.declared.pass.Pass.{Pass}

-- ---- who holds what after a step with blocks

abbrev NoneIn : List Job → ℕ → Type 0
NoneIn jobs actor = (number : ℕ) (job : Job) → Holds jobs actor number job → ⊥

-- new jobs wait
none_snoc : (actor : ℕ) (jobs : List Job) (tx : Tx) → NoneIn jobs actor → NoneIn (jobs ++ new_job tx ∷ []) actor
none_snoc actor jobs tx none number job holds = elim (job-snoc jobs (new_job tx) job number holds.stands) [
  | inl l ↦ none number job (record { stands = l; held = holds.held })
  | inr r ↦ false≢true (ap is_held (sym (ap (λ (x : Job). x.status) r.1) ∙ holds.held))
]

none_with : (app : App) (actor number : ℕ) (ids : List (List ℕ)) (txs : List Tx) (jobs : List Job) → NoneIn jobs actor → NoneIn (with_jobs app ids number txs jobs) actor
none_with app actor number ids [] jobs none = none
none_with app actor number ids (tx ∷ txs) jobs none = none_with app actor number (ids ++ tx.id ∷ []) txs (cond (needs_no_job app ids number jobs tx) jobs (jobs ++ new_job tx ∷ [])) (by (needs_no_job app ids number jobs tx))
  where
    by : (b : Bool) → NoneIn (cond b jobs (jobs ++ new_job tx ∷ [])) actor
    by true = none
    by false = none_snoc actor jobs tx none

-- jobs that a seal drops are not held
none_over : (actor : ℕ) (sealed : List SealedBlock) (jobs : List Job) → NoneIn jobs actor → NoneIn (map (drop_over sealed) jobs) actor
none_over actor sealed jobs none number job holds = let m = job-map jobs (drop_over sealed) number job holds.stands in by m.0 m.1 m.2 (is_over sealed m.0) refl
  where
    by : (was : Job) → job_at jobs number ≡ Some was → job ≡ drop_over sealed was → (b : Bool) → is_over sealed was ≡ b → ⊥
    by was stood is true e = false≢true (ap is_held (sym (ap (λ (x : Job). x.status) (is ∙ ap (λ b. cond b (dropped was) was) e)) ∙ holds.held))
    by was stood is false e = none number job (record { stands = stood ∙ ap Some (sym (is ∙ ap (λ b. cond b (dropped was) was) e)); held = holds.held })

module _ (app : App) (w : World) (actor : ℕ) (none : HoldsNone w actor) where
  delivers_none : (block : Shared Block) (o : Option BlockInWork) → HoldsNone (noted app w actor (delivers w block o).1) actor
  delivers_none block (Some work) = none
  delivers_none block None = by (block.value.number == (length w.sealed + 1))
    where
      by : (b : Bool) → HoldsNone (noted app w actor (cond {A = Reply} b (steps.Taken, Some (Deliver block)) (steps.NotNext (length w.sealed + 1), None)).1) actor
      by true = none_with app actor block.value.number (ids_of w.sealed) block.value.txs w.jobs none
      by false = none

  seals_none : (o : Option BlockInWork) → HoldsNone (noted app w actor (seals app w o).1) actor
  seals_none None = none
  seals_none (Some work) = by (due work)
    where
      by : (t : Option Tx) → HoldsNone (noted app w actor (seals_due app w work t).1) actor
      by None = none_over actor (with_sealed w.sealed w.work) w.jobs none
      by (Some tx) = none

  commits_none : (o : Option BlockInWork) → HoldsNone (noted app w actor (commits app w o).1) actor
  commits_none None = none
  commits_none (Some work) = by (due work)
    where
      by_ready : (b : Bool) (pos : ℕ) (answer : Answer) → HoldsNone (noted app w actor (cond {A = Reply} b (steps.Decided pos, Some (Commit pos)) (answer, None)).1) actor
      by_ready true pos answer = none
      by_ready false pos answer = none

      by : (t : Option Tx) → HoldsNone (noted app w actor (commits_due app w work t).1) actor
      by None = none
      by (Some tx) = by_ready (is_ready app w work tx) (decided work + 1) _

-- ---- what a commit tells

-- a commit says that nothing is undecided
abbrev pub is_all : Answer → Bool
is_all (steps.AllDecided number) = true
is_all (steps.NoBlock sealed) = true
is_all _ = false

-- it says that one was decided, of which it is an entry
abbrev pub is_decided : Answer → Bool
is_decided (steps.Decided pos) = true
is_decided _ = false

record Noted (event : Option Event) : Type 0 where
  pub one : Event
  pub is : event ≡ Some one

decided_noted : (app : App) (w : World) (o : Option BlockInWork) → is_decided (commits app w o).0 ≡ true → Noted (commits app w o).1
decided_noted app w None e = absurd (false≢true e)
decided_noted app w (Some work) e = by (due work) e
  where
    by_ready : (b : Bool) (pos : ℕ) (holder : Option ℕ) → is_decided (cond {A = Reply} b (steps.Decided pos, Some (Commit pos)) (steps.NotReady pos holder, None)).0 ≡ true
        → Noted (cond {A = Reply} b (steps.Decided pos, Some (Commit pos)) (steps.NotReady pos holder, None)).1
    by_ready true pos holder e = record { one = Commit pos; is = refl }
    by_ready false pos holder e = absurd (false≢true e)

    by : (t : Option Tx) → is_decided (commits_due app w work t).0 ≡ true → Noted (commits_due app w work t).1
    by None e = absurd (false≢true e)
    by (Some tx) e = by_ready (is_ready app w work tx) (decided work + 1) _ e

record NoneDue (o : Option BlockInWork) (event : Option Event) : Type 0 where
  pub all : option_and_then due o ≡ None
  pub quiet : event ≡ None

all_none : (app : App) (w : World) (o : Option BlockInWork) → is_all (commits app w o).0 ≡ true → NoneDue o (commits app w o).1
all_none app w None e = record { all = refl; quiet = refl }
all_none app w (Some work) e = by (due work) refl e
  where
    by_ready : (b : Bool) (pos : ℕ) (holder : Option ℕ) → is_all (cond {A = Reply} b (steps.Decided pos, Some (Commit pos)) (steps.NotReady pos holder, None)).0 ≡ true → ⊥
    by_ready true pos holder e = false≢true e
    by_ready false pos holder e = false≢true e

    by : (t : Option Tx) → due work ≡ t → is_all (commits_due app w work t).0 ≡ true → NoneDue (Some work) (commits_due app w work t).1
    by None is e = record { all = is; quiet = refl }
    by (Some tx) is e = absurd (by_ready (is_ready app w work tx) (decided work + 1) _ e)

-- ---- the blocks of a pass with none in work

pub none_in : (o : Option BlockInWork) → block_in o ≡ [] → o ≡ None
none_in None e = refl
none_in (Some work) e = let l = ap length e in absurd (omega (arith, l))

module _ {ghosts : Ghosts Core App Entry} (old new : Pass Core App Entry ghosts) (same : IsSamePass old new) (zero_is : pass_number old ≡ 0) where
  -- as many are sealed as were delivered
  sealed_count : IsTrue old → in_work old ≡ [] → length (state_seen old).sealed ≡ length (delivered_by old)
  sealed_count was rests =
      let both = reached (pass_base old) (seen old) was.legal in
      let own : mine old ≡ entries_by 0 (seen old) = sym (subst (λ n. entries_by n (seen old) ≡ mine old) zero_is was.own) in
      both.goes.count
      ∙ ap length (sym (ap delivered own ∙ (own_deliveries (pass_base old) (seen old) was.legal
      ∙ (delivered_are (pass_base old) (seen old) was.legal ∙ (ap (λ (blocks : List Block). both.goes.blocks ++ blocks) rests ∙ append-nil both.goes.blocks)))))

  -- ---- a delivery

  module _ (block : Block) (answer : Answer) (has : HasNone old) (delivery : IsDelivery old new block answer) where
    abbrev ask : steps.Ask
    ask = ToDeliver delivery.shared

    deliver_has : HasNone new
    deliver_has =
        let none = finds_none old new same has.true_to delivery.turn.journal delivery.turn.found has.none in
        let found : World = world (pass_base old) delivery.turn.journal in
        step_none old new same ask answer has.true_to delivery.turn tt
        (subst (λ (w : World). HoldsNone w (pass_number old)) (sym (step_state old new same ask answer has.true_to delivery.turn (delivers found delivery.shared found.work).1 refl))
        (delivers_none (pass_base old) found (pass_number old) none delivery.shared found.work))

    module _ (rests : in_work old ≡ []) (next : block.number ≡ length (delivered_by old) + 1) where
      abbrev there : World
      there = world (pass_base old) delivery.turn.journal

      none_there : there.work ≡ None
      none_there = at_work old new same ask answer has.true_to delivery.turn zero_is ∙ none_in (state_seen old).work rests

      number_is : delivery.shared.value.number ≡ length there.sealed + 1
      number_is =
          ap (λ (b : Block). b.number) delivery.same
          ∙ (next ∙ ap (λ n. n + 1) (sym (sealed_count has.true_to rests) ∙ sym (ap length ((found_later old new same has.true_to delivery.turn.journal delivery.turn.found).own_sealed zero_is))))

      taken : (delivers there delivery.shared there.work).1 ≡ Some (Deliver delivery.shared)
      taken =
          ap (λ (o : Option BlockInWork). (delivers there delivery.shared o).1) none_there
          ∙ ap (λ b. (cond {A = Reply} b (steps.Taken, Some (Deliver delivery.shared)) (steps.NotNext (length there.sealed + 1), None)).1)
          (eq-eqb delivery.shared.value.number (length there.sealed + 1) number_is)

      deliver_delivers : delivered_by new ≡ delivered_by old ++ block ∷ []
      deliver_delivers =
          step_delivers old new same ask answer has.true_to delivery.turn (Some (Deliver delivery.shared)) taken ∙ ap (λ (b : Block). delivered_by old ++ b ∷ []) delivery.same

  -- ---- a commit

  module _ (answer : Answer) (has : HasNone old) (turn : IsTurn old new ToCommit answer) where
    commit_has : HasNone new
    commit_has =
        let none = finds_none old new same has.true_to turn.journal turn.found has.none in
        let found : World = world (pass_base old) turn.journal in
        step_none old new same ToCommit answer has.true_to turn tt
        (subst (λ (w : World). HoldsNone w (pass_number old)) (sym (step_state old new same ToCommit answer has.true_to turn (commits (pass_base old) found found.work).1 refl))
        (commits_none (pass_base old) found (pass_number old) none found.work))

    pub commit_all : is_all answer ≡ true → AllDecided new
    commit_all all =
        let found : World = world (pass_base old) turn.journal in
        let due_none = all_none (pass_base old) found found.work (sym (ap is_all (answer_is old new same ToCommit answer has.true_to turn)) ∙ all) in
        ap (λ (w : World). option_and_then due w.work) (step_state old new same ToCommit answer has.true_to turn None due_none.quiet) ∙ due_none.all

    commit_made : is_decided answer ≡ true → HasMade old new
    commit_made is =
        let found : World = world (pass_base old) turn.journal in
        let noted = decided_noted (pass_base old) found found.work (sym (ap is_decided (answer_is old new same ToCommit answer has.true_to turn)) ∙ is) in
        turn_makes old new ToCommit answer turn noted.one noted.is

  -- ---- a seal

  module _ (answer : Answer) (has : HasNone old) (turn : IsTurn old new ToSeal answer) where
    seal_has : HasNone new
    seal_has =
        let none = finds_none old new same has.true_to turn.journal turn.found has.none in
        let found : World = world (pass_base old) turn.journal in
        step_none old new same ToSeal answer has.true_to turn tt
        (subst (λ (w : World). HoldsNone w (pass_number old)) (sym (step_state old new same ToSeal answer has.true_to turn (seals (pass_base old) found found.work).1 refl))
        (seals_none (pass_base old) found (pass_number old) none found.work))

    module _ (all : AllDecided old) where
      abbrev sealing : World
      sealing = world (pass_base old) turn.journal

      none_due : option_and_then due sealing.work ≡ None
      none_due = ap (option_and_then due) (at_work old new same ToSeal answer has.true_to turn zero_is) ∙ all

      record Sealing (o : Option Event) : Type 0 where
        pub nothing : delivered (entries_for (pass_number old) o) ≡ []
        pub over : block_in (noted (pass_base old) sealing (pass_number old) o).work ≡ []

      sealing_of : (o : Option BlockInWork) → sealing.work ≡ o → option_and_then due o ≡ None → Sealing (seals (pass_base old) sealing o).1
      sealing_of None is e = record { nothing = refl; over = ap block_in is }
      sealing_of (Some work) is e = by (due work) e
        where
          by : (t : Option Tx) → t ≡ None → Sealing (seals_due (pass_base old) sealing work t).1
          by None e = record { nothing = refl; over = refl }
          by (Some tx) e = absurd (none-some tx (sym e))

      sealed_now : Sealing (seals (pass_base old) sealing sealing.work).1
      sealed_now = sealing_of sealing.work refl none_due

      seal_delivers : delivered_by new ≡ delivered_by old
      seal_delivers =
          step_delivers old new same ToSeal answer has.true_to turn (seals (pass_base old) sealing sealing.work).1 refl
          ∙ (ap (λ (blocks : List Block). delivered_by old ++ blocks) sealed_now.nothing ∙ append-nil (delivered_by old))

      seal_rests : in_work new ≡ []
      seal_rests = ap (λ (w : World). block_in w.work) (step_state old new same ToSeal answer has.true_to turn (seals (pass_base old) sealing sealing.work).1 refl) ∙ sealed_now.over

  -- ---- the calls, whether or not memory was wanting

  module _ {M : Type 0} (has : HasNone old) where
    pub deliver_leaves : (block : Block) (r : Result Delivered M) → IfOk r (λ got. IsDelivery old new block (delivered_as got)) → OnErr r (IsLook old new) → HasNone new
    deliver_leaves block (Ok got) delivery err = deliver_has block (delivered_as got) has delivery
    deliver_leaves block (Err refused) delivery err = look_none old new same has.true_to err has

    -- a block that is the next is delivered
    pub deliver_takes : (block : Block) (r : Result Delivered M) → IfOk r (λ got. IsDelivery old new block (delivered_as got)) → in_work old ≡ [] → block.number ≡ length (delivered_by old) + 1
        → OnOk r (delivered_by new ≡ delivered_by old ++ block ∷ [])
    deliver_takes block (Ok got) delivery rests next = deliver_delivers block (delivered_as got) has delivery rests next
    deliver_takes block (Err refused) delivery rests next = tt

    pub commit_leaves : (r : Result Decided M) → IfOk r (λ got. IsTurn old new ToCommit (decided_as got)) → OnErr r (IsLook old new) → HasNone new
    commit_leaves (Ok got) turn err = commit_has (decided_as got) has turn
    commit_leaves (Err refused) turn err = look_none old new same has.true_to err has

    pub commit_blocks : (r : Result Decided M) → IfOk r (λ got. IsTurn old new ToCommit (decided_as got)) → OnErr r (IsLook old new) → SameBlocks old new
    commit_blocks (Ok got) turn err = step_blocks old new same ToCommit (decided_as got) has.true_to turn tt zero_is
    commit_blocks (Err refused) turn err = look_blocks old new same has.true_to err zero_is

    pub commit_says : (r : Result Decided M) → IfOk r (λ got. IsTurn old new ToCommit (decided_as got)) → IfOk r (λ got. Says got old new)
    commit_says (Ok got) turn = by got turn
      where
        by : (got : Decided) → IsTurn old new ToCommit (decided_as got) → Says got old new
        by (answered.Outcome pos) turn = commit_made (steps.Decided pos) has turn refl
        by (answered.NotReady pos holder) turn = tt
        by (answered.AllDecided number) turn = commit_all (steps.AllDecided number) has turn refl
        by (answered.NoBlock sealed) turn = commit_all (steps.NoBlock sealed) has turn refl
    commit_says (Err refused) turn = tt

    pub seal_leaves : (r : Result answers.Sealed M) → IfOk r (λ got. IsTurn old new ToSeal (sealed_as got)) → OnErr r (IsLook old new) → HasNone new
    seal_leaves (Ok got) turn err = seal_has (sealed_as got) has turn
    seal_leaves (Err refused) turn err = look_none old new same has.true_to err has

    -- a block of which nothing is undecided is sealed, and then none is in work
    pub seal_delivered : (r : Result answers.Sealed M) → IfOk r (λ got. IsTurn old new ToSeal (sealed_as got)) → AllDecided old → OnOk r (delivered_by new ≡ delivered_by old)
    seal_delivered (Ok got) turn all = seal_delivers (sealed_as got) has turn all
    seal_delivered (Err refused) turn all = tt

    pub seal_over : (r : Result answers.Sealed M) → IfOk r (λ got. IsTurn old new ToSeal (sealed_as got)) → AllDecided old → OnOk r (in_work new ≡ [])
    seal_over (Ok got) turn all = seal_rests (sealed_as got) has turn all
    seal_over (Err refused) turn all = tt
