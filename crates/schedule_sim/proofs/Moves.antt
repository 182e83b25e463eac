-- What a step of one actor leaves to the others, and what it changes for its own.
use Rattle.std.proofs.Common.{Bool, List, None, Option, Some, [], ap, append-nil, cond, false, find, inl, inr, refl, subst, sym, true, ◌++◌, ◌==◌, ◌∙◌, ◌≡◌, ◌∷◌, ℕ}
use Rattle.std.proofs.lemmas.Bool.{eqb-true, false≢true}
use Rattle.std.proofs.lemmas.Option.{same_Some}
use Rattle.std.specs.Option.{is_some, option_and_then, option_map}
use Rattle.node_core.proofs.Claims.{changed_at}
use Rattle.node_core.proofs.Journal.{world_grown}
use Rattle.node_core.specs.Answers.{got_as, is_gone}
use Rattle.node_core.specs.Core.{Core, IsHeld, MayAsk, Steps, entries_for, world_of}
use Rattle.node_core.specs.Hands.{IsAnswered, IsClaimed}
use Rattle.node_core.specs.InHand.{InHand, job_in}
use Rattle.node_core.specs.declared.answers.Got.TheVariants as got
use Rattle.node_core.specs.declared.answers.Got.{Got}
use Rattle.node_model.specs.Decide.{run_at}
use Rattle.node_model.specs.Events.{claimed, dropped, ended, finished, has_told, hit_since, is_settled, next_read, read_on, released, settled_in}
use Rattle.node_model.specs.History.{SealedBlock}
use Rattle.node_model.specs.Journals.{IsLegal, world}
use Rattle.node_model.specs.Steps as steps
use Rattle.node_model.specs.Steps.{Answer, Ask, May, Reply, ToClaim, ToFinish, ToRead, ToRelease, chosen, claims, doomed_or_rows, finishes, noted, reads, reads_unless, reply}
use Rattle.node_model.specs.World.{Done, Held, Holds, HoldsNone, Job, World, change_job, empty, is_held, job_at, new_job}
use Rattle.node_model.specs.declared.journal.Entry.{Entry}
use Rattle.node_model.specs.declared.journal.Event.TheVariants as event
use Rattle.node_model.specs.declared.journal.Event.{Event}
use Rattle.node_model.specs.declared.journal.Pick.{Pick}
use Rattle.proc_syntax.specs.declared.tree.App.{App}
use Rattle.rel_base.specs.Tables.{Stamped}
use Rattle.schedule_laws.proofs.Asking.{claimed_is, may_stays, none_claimed}
use Rattle.schedule_laws.proofs.Facts.{facts_always_hold}
use Rattle.schedule_laws.proofs.Lasting.{cond_held, legal_more, others_leave}
use Rattle.schedule_laws.proofs.Lists.{job-change}
use Rattle.schedule_laws.specs.Stable.{IsLater, entries_by}
use Rattle.schedule_sim.specs.InHands.{IsHand, IsWorkOf, WasGone}

pub legal_noted : (app : App) (journal : List Entry) (actor : ℕ) (ask : Ask) (o : Option Event) → IsLegal app journal → May app (world app journal) actor ask → (reply app (world app journal) ask).1 ≡ o
    → IsLegal app (journal ++ entries_for actor o)
legal_noted app journal actor ask None legal may is = subst (IsLegal app) (sym (append-nil journal)) legal
legal_noted app journal actor ask (Some event) legal may is =
    legal_more app empty journal (record { actor = actor; event = event }) legal (record { ask = ask; may = may; told = is })

-- an id that is settled is settled still
settled_more : (id : List ℕ) (sealed more : List SealedBlock) → is_settled id sealed ≡ true → is_settled id (sealed ++ more) ≡ true
settled_more id [] more e = absurd (false≢true e)
settled_more id (block ∷ sealed) more e =
    (elim (has_told id block) as (λ b. first_of b sealed ≡ true → first_of b (sealed ++ more) ≡ true) [ true ↦ λ e. refl | false ↦ λ e. settled_more id sealed more e ]) e
  where
    first_of : Bool → List SealedBlock → Bool
    first_of b rest = is_some (option_map (λ (sealed : SealedBlock). sealed.number) (cond b (Some block) (find (has_told id) rest)))

none_by : (other actor : ℕ) (o : Option Event) → (other ≡ actor → ⊥) → entries_by other (entries_for actor o) ≡ []
none_by other actor None apart = refl
none_by other actor (Some event) apart = by (actor == other) refl
  where
    by : (b : Bool) → (actor == other) ≡ b → cond {A = List Entry} b (record { actor = actor; event = event } ∷ []) [] ≡ []
    by true e = absurd (apart (sym (eqb-true actor other e)))
    by false e = refl

module _ (old : Core) (actor : ℕ) (ask : Ask) (legal : IsLegal old.app old.journal) (may : MayAsk old actor ask) where
  abbrev noted_event : Option Event
  noted_event = (reply old.app (world_of old) ask).1

  abbrev later : Core
  later = record { app = old.app; journal = old.journal ++ entries_for actor noted_event }

  legal_later : IsLegal old.app later.journal
  legal_later = legal_noted old.app old.journal actor ask noted_event legal may refl

  module _ (other : ℕ) (apart : other ≡ actor → ⊥) where
    leaves : IsLater old.app other (world_of old) (world_of later)
    leaves = others_leave old.app old.journal (entries_for actor noted_event) other legal_later (none_by other actor noted_event apart)

    keeps_none : HoldsNone (world_of old) other → HoldsNone (world_of later) other
    keeps_none none number job holds = none number job ((leaves.held number job).1 holds)

    keeps_work : (work : InHand) → work.actor ≡ other → IsWorkOf old other work → IsWorkOf later other work
    keeps_work work same is = record {
      same = same;
      held = record {
        app = is.held.app;
        holds = subst (λ n. Holds (world_of later).jobs n work.job (job_in work)) (sym same)
            ((leaves.held work.job (job_in work)).0 (subst (λ n. Holds (world_of old).jobs n work.job (job_in work)) same is.held.holds));
        time = is.held.time ∙ sym (leaves.shows.times work.told.tx.height (((facts_always_hold old.app old.journal legal).jobs_fit work.job (job_in work) is.held.holds.stands).low refl));
      };
      only = λ number job holds. is.only number job ((leaves.held number job).1 holds);
      gone = λ e. record {
        settled = subst (λ sealed. is_settled work.told.tx.id sealed ≡ true) (sym leaves.sealed) (settled_more work.told.tx.id (world_of old).sealed leaves.more (is.gone e).settled);
        may = may_stays old.app old.journal (entries_for actor noted_event) work.actor (ToRead work.job) legal_later
            (subst (λ n. entries_by n (entries_for actor noted_event) ≡ []) (sym same) (none_by other actor noted_event apart)) (is.gone e).may;
      };
    }

    keeps_later : (hand : Option InHand) → IsHand old other hand → IsHand later other hand
    keeps_later None is = keeps_none is
    keeps_later (Some work) is = keeps_work work is.same is

  -- what a call leaves, that is this step
  module _ (new : Core) (answer : Answer) (step : Steps old actor ask answer new) where
    new_is : new ≡ later
    new_is = ap (λ (p : Answer × Core). p.1) step

    pub legal_new : IsLegal new.app new.journal
    legal_new = subst (λ (core : Core). IsLegal core.app core.journal) (sym new_is) legal_later

    pub keeps : (other : ℕ) → (other ≡ actor → ⊥) → (hand : Option InHand) → IsHand old other hand → IsHand new other hand
    keeps other apart hand is = subst (λ (core : Core). IsHand core other hand) (sym new_is) (keeps_later other apart hand is)

    world_new : world_of new ≡ noted old.app (world_of old) actor noted_event
    world_new = ap world_of new_is ∙ world_grown old.app old.journal actor noted_event

-- ---- a claim

module _ (old new : Core) (actor : ℕ) (pick : Pick) (legal : IsLegal old.app old.journal) (may : MayAsk old actor (ToClaim pick)) (none : HoldsNone (world_of old) actor) where
  pub claims_none : Steps old actor (ToClaim pick) steps.NoJob new → HoldsNone (world_of new) actor
  claims_none step number job holds =
      let is = none_claimed (chosen old.app (world_of old) pick) (ap (λ (p : Answer × Core). p.0) step) in
      let w = world_new old actor (ToClaim pick) legal may new steps.NoJob step ∙ ap (λ o. noted old.app (world_of old) actor (claims o).1) is in
      none number job (subst (λ (v : World). Holds v.jobs actor number job) w holds)

  pub claims_work : (work : InHand) → Steps old actor (ToClaim pick) (steps.Claimed work.job) new → IsHeld new work → IsClaimed actor work → IsWorkOf new actor work
  claims_work work step held fresh = record {
    same = fresh.actor_is;
    held = held;
    only = λ number job holds. only_at number job (subst (λ (v : World). Holds v.jobs actor number job) w holds);
    gone = λ e. absurd (false≢true (sym fresh.not_gone ∙ e));
  }
    where
      is : chosen old.app (world_of old) pick ≡ Some work.job
      is = claimed_is (chosen old.app (world_of old) pick) work.job (ap (λ (p : Answer × Core). p.0) step)

      w : world_of new ≡ noted old.app (world_of old) actor (Some (event.Claim work.job))
      w = world_new old actor (ToClaim pick) legal may new (steps.Claimed work.job) step ∙ ap (λ o. noted old.app (world_of old) actor (claims o).1) is

      only_at : (number : ℕ) (job : Job) → Holds (change_job (claimed actor) (world_of old).jobs work.job) actor number job → number ≡ work.job
      only_at number job holds = let c = job-change (world_of old).jobs work.job (claimed actor) number job holds.stands in elim c.now [
        | inl l ↦ absurd (none number c.was (record { stands = c.stood; held = ap (λ (x : Job). x.status) (sym l) ∙ holds.held }))
        | inr r ↦ r.0
      ]

-- ---- a read

abbrev is_gone_answer : Answer → Bool
is_gone_answer (steps.Gone number) = true
is_gone_answer _ = false

got_gone : (g : Got) → is_gone_answer (got_as g) ≡ is_gone g
got_gone got.Rows = refl
got_gone (got.Doomed place) = refl
got_gone (got.Gone number) = refl

not_gone : (o : Option Stamped) → is_gone_answer (doomed_or_rows o) ≡ false
not_gone None = refl
not_gone (Some stamped) = refl

module _ (old new : Core) (work work' : InHand) (g : Got) (legal : IsLegal old.app old.journal) (is : IsWorkOf old work.actor work) (may : MayAsk old work.actor (ToRead work.job))
    (step : Steps old work.actor (ToRead work.job) (got_as g) new) (held : IsHeld new work') (answered : IsAnswered g work work') where
  reply_is : (o : Option ℕ) → settled_in work.told.tx.id (world_of old).sealed ≡ o → reply old.app (world_of old) (ToRead work.job) ≡ reads_unless old.app (world_of old) work.job (job_in work) o
  reply_is o e = ap (reads old.app (world_of old) work.job) is.held.holds.stands ∙ ap (reads_unless old.app (world_of old) work.job (job_in work)) e

  world_is : (o : Option ℕ) → settled_in work.told.tx.id (world_of old).sealed ≡ o
      → world_of new ≡ noted old.app (world_of old) work.actor (reads_unless old.app (world_of old) work.job (job_in work) o).1
  world_is o e = world_new old work.actor (ToRead work.job) legal may new (got_as g) step ∙ ap (λ (r : Reply). noted old.app (world_of old) work.actor r.1) (reply_is o e)

  only_read : (o : Option ℕ) → settled_in work.told.tx.id (world_of old).sealed ≡ o → (number : ℕ) (job : Job) → Holds (world_of new).jobs work.actor number job → number ≡ work.job
  only_read (Some block) e number job holds = is.only number job (subst (λ (v : World). Holds v.jobs work.actor number job) (world_is (Some block) e) holds)
  only_read None e number job holds =
      let h = subst (λ (v : World). Holds v.jobs work.actor number job) (world_is None e) holds in
      let c = job-change (world_of old).jobs work.job (read_on old.app (world_of old).sealed) number job h.stands in
      elim c.now [
        | inl l ↦ is.only number c.was (record { stands = c.stood; held = ap (λ (x : Job). x.status) (sym l) ∙ h.held })
        | inr r ↦ r.0
      ]

  was_gone : (o : Option ℕ) → settled_in work.told.tx.id (world_of old).sealed ≡ o → is_gone g ≡ true → WasGone new work'
  was_gone None e gone =
      let told : got_as g ≡ (reads_unless old.app (world_of old) work.job (job_in work) None).0 = ap (λ (p : Answer × Core). p.0) step ∙ ap (λ (r : Reply). r.0) (reply_is None e) in
      absurd (false≢true (sym (not_gone (option_and_then (hit_since old.app (world_of old).sealed work.told.tx) (next_read old.app (world_of old).sealed (job_in work)))) ∙ sym (ap is_gone_answer told) ∙ got_gone g ∙ gone))
  was_gone (Some block) e gone =
      let same : world_of new ≡ world_of old = world_is (Some block) e in
      let app_same : new.app ≡ old.app = ap (λ (p : Answer × Core). p.1.app) step in
      let job_same : job_in work' ≡ job_in work =
      same_Some (job_in work') (job_in work) (sym held.holds.stands ∙ ap (job_at (world_of new).jobs) answered.job ∙ ap (λ (v : World). job_at v.jobs work.job) same ∙ is.held.holds.stands) in
      record {
        settled = ap (λ (v : World). is_settled work'.told.tx.id v.sealed) same ∙ ap (λ (job : Job). is_settled job.tx.id (world_of old).sealed) job_same ∙ ap is_some e;
        may = subst (λ n. MayAsk new n (ToRead work'.job)) (sym answered.actor) (subst (λ n. MayAsk new work.actor (ToRead n)) (sym answered.job)
            (subst (λ (v : World). May new.app v work.actor (ToRead work.job)) (sym same) (subst (λ app. May app (world_of old) work.actor (ToRead work.job)) (sym app_same) may)));
      }

  pub reads_work : IsWorkOf new work.actor work'
  reads_work = record {
    same = answered.actor;
    held = held;
    only = λ number job holds. only_read (settled_in work.told.tx.id (world_of old).sealed) refl number job holds ∙ sym answered.job;
    gone = λ e. was_gone (settled_in work.told.tx.id (world_of old).sealed) refl (sym answered.gone ∙ e);
  }

-- ---- the end of a held job

-- a change that lets a held job go
lets_go : (old : Core) (work : InHand) (change : Job → Job) → IsWorkOf old work.actor work → ((change (job_in work)).status ≡ Held work.actor → ⊥)
    → (number : ℕ) (job : Job) → Holds (change_job change (world_of old).jobs work.job) work.actor number job → ⊥
lets_go old work change is free number job holds =
    let c = job-change (world_of old).jobs work.job change number job holds.stands in
    let at : number ≡ work.job = elim c.now [
      | inl l ↦ is.only number c.was (record { stands = c.stood; held = ap (λ (x : Job). x.status) (sym l) ∙ holds.held })
      | inr r ↦ r.0
    ] in
    let now : job ≡ change (job_in work) =
    same_Some job (change (job_in work)) (sym holds.stands ∙ ap (job_at (change_job change (world_of old).jobs work.job)) at ∙ changed_at (world_of old).jobs work.job change (job_in work) is.held.holds.stands) in
    free (ap (λ (x : Job). x.status) (sym now) ∙ holds.held)

module _ (old new : Core) (work : InHand) (answer : Answer) (legal : IsLegal old.app old.journal) (is : IsWorkOf old work.actor work) where
  pub finishes_work : MayAsk old work.actor (ToFinish work.job) → Steps old work.actor (ToFinish work.job) answer new → HoldsNone (world_of new) work.actor
  finishes_work may step number job holds =
      let w = world_new old work.actor (ToFinish work.job) legal may new answer step ∙ ap (λ o. noted old.app (world_of old) work.actor (finishes (world_of old) work.job o).1) is.held.holds.stands in
      lets_go old work (finished old.app (world_of old).sealed) is
      (cond_held work.actor (is_settled work.told.tx.id (world_of old).sealed) (dropped (job_in work)) (record { tx = work.told.tx; status = Done; recorded = ended (job_in work).recorded (run_at old.app (world_of old).sealed work.told.tx) })
      (λ e. false≢true (ap is_held e)) (λ e. false≢true (ap is_held e)))
      number job (subst (λ (v : World). Holds v.jobs work.actor number job) w holds)

  pub releases_work : MayAsk old work.actor (ToRelease work.job) → Steps old work.actor (ToRelease work.job) answer new → HoldsNone (world_of new) work.actor
  releases_work may step number job holds =
      let w = world_new old work.actor (ToRelease work.job) legal may new answer step in
      lets_go old work (released (world_of old).sealed) is
      (cond_held work.actor (is_settled work.told.tx.id (world_of old).sealed) (dropped (job_in work)) (new_job work.told.tx) (λ e. false≢true (ap is_held e)) (λ e. false≢true (ap is_held e)))
      number job (subst (λ (v : World). Holds v.jobs work.actor number job) w holds)
