-- What a pass has in hand after a turn with a job.
use Rattle.std.proofs.Common.{Bool, IfSome, List, None, Option, Some, ap, cond, false, inl, inr, refl, subst, sym, true, ◌∙◌, ◌≡◌, ◌⊎◌, ℕ}
use Rattle.std.proofs.lemmas.Bool.{false≢true}
use Rattle.std.proofs.lemmas.Option.{same_Some}
use Rattle.std.specs.List.{list_any}
use Rattle.std.specs.Option.{is_some, option_and_then}
use Rattle.cluster_run.proofs.Turning.{answer_is, finds_held, finds_none, finds_only, finds_settled, step_none, step_state, step_job}
use Rattle.cluster_run.proofs.Made.{turn_makes}
use Rattle.cluster_run.specs.Standing.{Has, HasMade, HasNoJob, HasNone, HasWork, HoldsOnly, IsOver, state_seen}
use Rattle.node_core.proofs.Claims.{changed_at}
use Rattle.node_core.specs.Answers.{claimed_as, got_as, is_gone}
use Rattle.node_core.specs.Core.{Core, IsHeld, world_of}
use Rattle.node_core.specs.Hands.{IsAnswered, IsClaimed}
use Rattle.node_core.specs.InHand.{InHand, job_in}
use Rattle.node_core.specs.declared.answers.Got.TheVariants as answers
use Rattle.node_core.specs.declared.answers.Got.{Got}
use Rattle.node_model.specs.Decide.{run_at}
use Rattle.node_model.specs.Events.{claimed, dropped, ended, finished, hit_since, is_settled, next_read, read_on, released, settled_in}
use Rattle.node_model.specs.Steps as steps
use Rattle.node_model.specs.Steps.{Answer, ToClaim, ToFinish, ToRead, ToRelease, chosen, claims, doomed_or_rows, finishes, noted, reads, reads_unless}
use Rattle.node_model.specs.World.{Done, Dropped, Held, Holds, HoldsNone, Job, World, change_job, is_held, is_held_by, job_at, new_job}
use Rattle.node_model.specs.declared.journal.Entry.{Entry}
use Rattle.node_model.specs.declared.journal.Event.TheVariants as event_of
use Rattle.node_model.specs.declared.journal.Event.{Event}
use Rattle.node_model.specs.declared.journal.Pick.{Pick}
use Rattle.node_shared.specs.Turn.{IsTurn, node_seen}
use Rattle.proc_syntax.specs.declared.tree.App.{App}
use Rattle.rel_base.specs.Tables.{Stamped}
use Rattle.rel_base.specs.declared.storied.Storied.{Ghosts}
use Rattle.schedule_laws.proofs.Lists.{job-change}
use Rattle.schedule_laws.proofs.Asking.{claimed_is, holds_any, none_claimed}
use Rattle.schedule_laws.proofs.Lasting.{cond_held}
use Rattle.turn_lock.specs.Passes.{IsSamePass, pass_base, pass_number}
use Rattle.turn_lock.specs.declared.pass.Pass.{Pass}

-- ---- jobs that change

module _ (jobs : List Job) (actor one : ℕ) (change : Job → Job) where
  -- the number of a job that is held after a change of one
  held_before : (number : ℕ) (job : Job) → Holds (change_job change jobs one) actor number job → (Holds jobs actor number job) ⊎ (number ≡ one)
  held_before number job holds = let c = job-change jobs one change number job holds.stands in elim c.now [
    | inl l ↦ inl (record { stands = c.stood ∙ ap Some (sym l); held = holds.held })
    | inr r ↦ inr r.0
  ]

  -- none was held, so that none but the changed one is
  only_changed : ((number : ℕ) (job : Job) → Holds jobs actor number job → number ≡ one) → (number : ℕ) (job : Job) → Holds (change_job change jobs one) actor number job → number ≡ one
  only_changed only number job holds = elim (held_before number job holds) [ inl l ↦ only number job l | inr r ↦ r ]

  -- the one that was held is let go
  lets_go : (was : Job) → job_at jobs one ≡ Some was → ((change was).status ≡ Held actor → ⊥) → ((number : ℕ) (job : Job) → Holds jobs actor number job → number ≡ one)
      → (number : ℕ) (job : Job) → Holds (change_job change jobs one) actor number job → ⊥
  lets_go was stands free only number job holds =
      let number_is : number ≡ one = only_changed only number job holds in
      let now : job ≡ change was = same_Some job (change was) (sym holds.stands ∙ (ap (job_at (change_job change jobs one)) number_is ∙ changed_at jobs one change was stands)) in
      free (ap (λ (x : Job). x.status) (sym now) ∙ holds.held)

-- a job that is dropped where its id is settled, and done elsewhere
ends_so : (b : Bool) (gone done : Job) → gone.status ≡ Dropped → done.status ≡ Done → ((cond b gone done).status ≡ Done) ⊎ ((cond b gone done).status ≡ Dropped)
ends_so true gone done is_dropped is_done = inr is_dropped
ends_so false gone done is_dropped is_done = inl is_done

-- ---- reads that find an id settled

abbrev tells_gone : Answer → Bool
tells_gone (steps.Gone number) = true
tells_gone _ = false

gone_as : (one : Got) → tells_gone (got_as one) ≡ is_gone one
gone_as answers.Rows = refl
gone_as (answers.Doomed place) = refl
gone_as (answers.Gone number) = refl

not_gone : (hit : Option Stamped) → tells_gone (doomed_or_rows hit) ≡ true → ⊥
not_gone None e = false≢true e
not_gone (Some stamped) e = false≢true e

-- nothing is noted of such a read
record IsGone (o : Option ℕ) (event : Option Event) : Type 0 where
  pub settled : is_some o ≡ true
  pub quiet : event ≡ None

gone_is : (app : App) (w : World) (number : ℕ) (job : Job) (o : Option ℕ) → tells_gone (reads_unless app w number job o).0 ≡ true → IsGone o (reads_unless app w number job o).1
gone_is app w number job (Some block) e = record { settled = refl; quiet = refl }
gone_is app w number job None e = absurd (not_gone (option_and_then (hit_since app w.sealed job.tx) (next_read app w.sealed job)) e)

-- ---- turns

module _ {ghosts : Ghosts Core App Entry} (old new : Pass Core App Entry ghosts) (same : IsSamePass old new) where
  -- a claim
  module _ (pick : Pick) (has : HasNone old) where
    claimed_none : IsTurn old new (ToClaim pick) steps.NoJob → HasNone new
    claimed_none turn =
        let none = finds_none old new same has.true_to turn.journal turn.found has.none in
        let is = none_claimed (chosen (pass_base old) (world_of (record { app = pass_base old; journal = turn.journal })) pick) (answer_is old new same (ToClaim pick) steps.NoJob has.true_to turn) in
        let state = step_state old new same (ToClaim pick) steps.NoJob has.true_to turn None (ap (λ (o : Option ℕ). (claims o).1) is) in
        step_none old new same (ToClaim pick) steps.NoJob has.true_to turn tt (subst (λ (w : World). HoldsNone w (pass_number old)) (sym state) none)

    claimed_work : (work : InHand) → IsTurn old new (ToClaim pick) (steps.Claimed work.job) → IsHeld (node_seen new) work → IsClaimed (pass_number old) work → HasWork new work
    claimed_work work turn held fresh =
        let found : World = world_of (record { app = pass_base old; journal = turn.journal }) in
        let none = finds_none old new same has.true_to turn.journal turn.found has.none in
        let is = claimed_is (chosen (pass_base old) found pick) work.job (answer_is old new same (ToClaim pick) (steps.Claimed work.job) has.true_to turn) in
        let state = step_state old new same (ToClaim pick) (steps.Claimed work.job) has.true_to turn (Some (event_of.Claim work.job)) (ap (λ (o : Option ℕ). (claims o).1) is) in
        step_job old new same (ToClaim pick) (steps.Claimed work.job) has.true_to turn tt work fresh.actor_is held
        (subst (λ (w : World). HoldsOnly w (pass_number old) work.job) (sym state)
        (only_changed found.jobs (pass_number old) work.job (claimed (pass_number old)) (λ number job holds. absurd (none number job holds))))
        (λ gone. absurd (false≢true (sym fresh.not_gone ∙ gone)))

    -- where none was taken, there is none to take
    pub none_taken : IsTurn old new (ToClaim pick) steps.NoJob → HasNoJob new pick
    none_taken turn =
        let found : World = world_of (record { app = pass_base old; journal = turn.journal }) in
        let is = none_claimed (chosen (pass_base old) found pick) (answer_is old new same (ToClaim pick) steps.NoJob has.true_to turn) in
        let state = step_state old new same (ToClaim pick) steps.NoJob has.true_to turn None (ap (λ (o : Option ℕ). (claims o).1) is) in
        ap (λ (a : App). chosen a (state_seen new) pick) same.same_base ∙ (ap (λ (w : World). chosen (pass_base old) w pick) state ∙ is)

    -- a claim that takes a job is an entry
    pub claim_made : (number : ℕ) → IsTurn old new (ToClaim pick) (steps.Claimed number) → HasMade old new
    claim_made number turn =
        let found : World = world_of (record { app = pass_base old; journal = turn.journal }) in
        let is = claimed_is (chosen (pass_base old) found pick) number (answer_is old new same (ToClaim pick) (steps.Claimed number) has.true_to turn) in
        turn_makes old new (ToClaim pick) (steps.Claimed number) turn (event_of.Claim number) (ap (λ (o : Option ℕ). (claims o).1) is)

    pub claim_has : (got : Option InHand) → IsTurn old new (ToClaim pick) (claimed_as got) → IfSome got (IsHeld (node_seen new)) → IfSome got (IsClaimed (pass_number old)) → Has new got
    claim_has None turn held fresh = claimed_none turn
    claim_has (Some work) turn held fresh = claimed_work work turn held fresh

  module _ (work : InHand) (has : HasWork old work) where
    -- a read
    module _ (got : Got) (turn : IsTurn old new (ToRead work.job) (got_as got)) where
      abbrev found : World
      found = world_of (record { app = pass_base old; journal = turn.journal })

      only_read : (o : Option ℕ) → HoldsOnly (noted (pass_base old) found (pass_number old) (reads_unless (pass_base old) found work.job (job_in work) o).1) (pass_number old) work.job
      only_read (Some block) = finds_only old new same has.true_to turn.journal turn.found work.job has.only
      only_read None =
          only_changed found.jobs (pass_number old) work.job (read_on (pass_base old) found.sealed) (finds_only old new same has.true_to turn.journal turn.found work.job has.only)

      read_settled : (work' : InHand) → IsHeld (node_seen new) work' → IsAnswered got work work' → work'.gone ≡ true → is_settled work'.told.tx.id (state_seen new).sealed ≡ true
      read_settled work' held answered gone =
          let held_then = finds_held old new same has.true_to turn.journal turn.found work has.actor has.held in
          let o : Option ℕ = settled_in work.told.tx.id found.sealed in
          let answer : got_as got ≡ (reads_unless (pass_base old) found work.job (job_in work) o).0 = answer_is old new same (ToRead work.job) (got_as got) has.true_to turn
          ∙ ap (λ (job : Option Job). (reads (pass_base old) found work.job job).0) held_then.holds.stands in
          let is = gone_is (pass_base old) found work.job (job_in work) o (sym (ap tells_gone answer) ∙ (gone_as got ∙ (sym answered.gone ∙ gone))) in
          let state : state_seen new ≡ found = step_state old new same (ToRead work.job) (got_as got) has.true_to turn None
          (ap (λ (job : Option Job). (reads (pass_base old) found work.job job).1) held_then.holds.stands ∙ is.quiet) in
          let same_job : Some (job_in work') ≡ Some (job_in work) = sym held.holds.stands
          ∙ (ap (λ (w : World). job_at w.jobs work'.job) state ∙ (ap (job_at found.jobs) answered.job ∙ held_then.holds.stands)) in
          let same_id : work'.told.tx.id ≡ work.told.tx.id = ap (λ (job : Job). job.tx.id) (same_Some (job_in work') (job_in work) same_job) in
          subst (λ (w : World). is_settled work'.told.tx.id w.sealed ≡ true) (sym state) (subst (λ id. is_settled id found.sealed ≡ true) (sym same_id) is.settled)

      pub read_has : (work' : InHand) → IsHeld (node_seen new) work' → IsAnswered got work work' → HasWork new work'
      read_has work' held answered =
          let held_then = finds_held old new same has.true_to turn.journal turn.found work has.actor has.held in
          let o : Option ℕ = settled_in work.told.tx.id found.sealed in
          let state = step_state old new same (ToRead work.job) (got_as got) has.true_to turn (reads_unless (pass_base old) found work.job (job_in work) o).1
          (ap (λ (job : Option Job). (reads (pass_base old) found work.job job).1) held_then.holds.stands) in
          step_job old new same (ToRead work.job) (got_as got) has.true_to turn tt work' (answered.actor ∙ has.actor) held
          (subst (HoldsOnly (state_seen new) (pass_number old)) (sym answered.job) (subst (λ (w : World). HoldsOnly w (pass_number old) work.job) (sym state) (only_read o)))
          (read_settled work' held answered)

    -- the end of a run, or of a claim
    pub finish_has : (answer : Answer) → IsTurn old new (ToFinish work.job) answer → HasNone new
    finish_has answer turn =
        let found : World = world_of (record { app = pass_base old; journal = turn.journal }) in
        let held_then = finds_held old new same has.true_to turn.journal turn.found work has.actor has.held in
        let state = step_state old new same (ToFinish work.job) answer has.true_to turn (Some (event_of.Finish work.job)) (ap (λ (job : Option Job). (finishes found work.job job).1) held_then.holds.stands) in
        step_none old new same (ToFinish work.job) answer has.true_to turn tt (subst (λ (w : World). HoldsNone w (pass_number old)) (sym state)
        (lets_go found.jobs (pass_number old) work.job (finished (pass_base old) found.sealed) (job_in work) held_then.holds.stands
        (cond_held (pass_number old) (is_settled work.told.tx.id found.sealed) (dropped (job_in work)) (record { tx = work.told.tx; status = Done; recorded = ended (job_in work).recorded (run_at (pass_base old) found.sealed work.told.tx) })
        (λ e. false≢true (ap is_held e)) (λ e. false≢true (ap is_held e)))
        (finds_only old new same has.true_to turn.journal turn.found work.job has.only)))

    pub finish_over : (answer : Answer) → IsTurn old new (ToFinish work.job) answer → IsOver new work.job
    finish_over answer turn =
        let found : World = world_of (record { app = pass_base old; journal = turn.journal }) in
        let held_then = finds_held old new same has.true_to turn.journal turn.found work has.actor has.held in
        let state = step_state old new same (ToFinish work.job) answer has.true_to turn (Some (event_of.Finish work.job)) (ap (λ (job : Option Job). (finishes found work.job job).1) held_then.holds.stands) in
        record {
          job = finished (pass_base old) found.sealed (job_in work);
          stands = ap (λ (w : World). job_at w.jobs work.job) state ∙ changed_at found.jobs work.job (finished (pass_base old) found.sealed) (job_in work) held_then.holds.stands;
          over = ends_so (is_settled work.told.tx.id found.sealed) (dropped (job_in work)) (record { tx = work.told.tx; status = Done; recorded = ended (job_in work).recorded (run_at (pass_base old) found.sealed work.told.tx) }) refl refl;
        }

    pub release_has : (answer : Answer) → IsTurn old new (ToRelease work.job) answer → HasNone new
    release_has answer turn =
        let found : World = world_of (record { app = pass_base old; journal = turn.journal }) in
        let held_then = finds_held old new same has.true_to turn.journal turn.found work has.actor has.held in
        let state = step_state old new same (ToRelease work.job) answer has.true_to turn (Some (event_of.Release work.job)) refl in
        step_none old new same (ToRelease work.job) answer has.true_to turn tt (subst (λ (w : World). HoldsNone w (pass_number old)) (sym state)
        (lets_go found.jobs (pass_number old) work.job (released found.sealed) (job_in work) held_then.holds.stands
        (cond_held (pass_number old) (is_settled work.told.tx.id found.sealed) (dropped (job_in work)) (new_job work.told.tx) (λ e. false≢true (ap is_held e)) (λ e. false≢true (ap is_held e)))
        (finds_only old new same has.true_to turn.journal turn.found work.job has.only)))

    -- one whose id is settled is dropped
    pub release_over : (answer : Answer) → IsTurn old new (ToRelease work.job) answer → work.gone ≡ true → IsOver new work.job
    release_over answer turn gone =
        let found : World = world_of (record { app = pass_base old; journal = turn.journal }) in
        let held_then = finds_held old new same has.true_to turn.journal turn.found work has.actor has.held in
        let state = step_state old new same (ToRelease work.job) answer has.true_to turn (Some (event_of.Release work.job)) refl in
        let settled = finds_settled old new same has.true_to turn.journal turn.found work.told.tx.id (has.settled gone) in
        record {
          job = released found.sealed (job_in work);
          stands = ap (λ (w : World). job_at w.jobs work.job) state ∙ changed_at found.jobs work.job (released found.sealed) (job_in work) held_then.holds.stands;
          over = inr (ap (λ (b : Bool). (cond b (dropped (job_in work)) (new_job work.told.tx)).status) settled);
        }

-- ---- who may claim

-- one who holds none
pub may_claim : (w : World) (actor : ℕ) → HoldsNone w actor → list_any (λ job. is_held_by actor job.status) w.jobs ≡ false
may_claim w actor none = by (list_any (λ job. is_held_by actor job.status) w.jobs) refl
  where
    by : (b : Bool) → list_any (λ job. is_held_by actor job.status) w.jobs ≡ b → b ≡ false
    by true e = let h = holds_any actor w.jobs e in absurd (none h.0 h.1 h.2)
    by false e = refl
