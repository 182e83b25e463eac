-- What others do leaves what an actor holds, and what it may ask.
use Rattle.std.proofs.Common.{Bool, List, None, Option, Some, [], ap, append-nil, append_assoc, arith, cond, false, inl, inr, length, length-append, map, refl, subst, sym, true, ◌&&◌, ◌++◌, ◌==◌, ◌||◌, ◌∙◌, ◌≡◌, ◌≤◌, ◌∷◌, ℕ}
use Rattle.node_model.specs.Decide.{run_at}
use Rattle.node_model.specs.Events.{after, claimed, drop_over, dropped, ended, finished, happens, is_over, is_settled, next_read, read_on, record_read, released, with_sealed}
use Rattle.node_model.specs.Fold.{sealed_as}
use Rattle.node_model.specs.History.{SealedBlock, ids_of}
use Rattle.node_model.specs.Journals.{IsLegal, IsLegalFrom, IsStep, world, world_from}
use Rattle.node_model.specs.World.{Done, Dropped, Held, Holds, Job, JobStatus, Waiting, World, change_job, empty, holder_of, is_done, is_held, is_waiting, job_at, new_job}
use Rattle.node_model.specs.declared.journal.Entry.{Entry}
use Rattle.node_model.specs.declared.journal.Event.TheVariants.{Arrive, Claim, Commit, Deliver, Finish, Read, Release, Seal}
use Rattle.node_model.specs.declared.journal.Event.{Event}
use Rattle.proc_syntax.specs.declared.call.Tx.{Tx}
use Rattle.proc_syntax.specs.declared.tree.App.{App}
use Rattle.rel_base.specs.declared.access.Read as access
use Rattle.schedule_laws.proofs.Allowing.{steps_are_allowed}
use Rattle.schedule_laws.proofs.Chains.{counted-append, shows-more}
use Rattle.schedule_laws.proofs.Facts.{facts_from, first_facts, grown, steps_keep_facts}
use Rattle.schedule_laws.proofs.Lists.{job-change, job-else, job-left, job-map, job-mapped, job-snoc}
use Rattle.schedule_laws.specs.Allowed.{Allows}
use Rattle.schedule_laws.specs.Facts.{AreCounted, FactsHold}
use Rattle.schedule_laws.specs.Laws.{OthersLeave}
use Rattle.schedule_laws.specs.Stable.{HoldsSame, IsLater, ShowsSame, entries_by}
use Rattle.std.proofs.lemmas.Bool.{eq-eqb, false≢true}
use Rattle.std.proofs.lemmas.Option.{same_Some}

-- ---- what an actor holds

same_holder : (one two : ℕ) → Held one ≡ Held two → one ≡ two
same_holder one two e = same_Some one two (ap holder_of e)

holds-trans : (actor : ℕ) (xs ys zs : List Job) → HoldsSame actor xs ys → HoldsSame actor ys zs → HoldsSame actor xs zs
holds-trans actor xs ys zs p q number job = (λ h. (q number job).0 ((p number job).0 h), λ h. (p number job).1 ((q number job).1 h))

holds-self : (actor : ℕ) (xs : List Job) → HoldsSame actor xs xs
holds-self actor xs number job = (λ h. h, λ h. h)

module _ (actor : ℕ) where
  not_held : (job : Job) → is_held job.status ≡ false → job.status ≡ Held actor → ⊥
  not_held job e h = false≢true (sym e ∙ ap is_held h)

  holds-snoc : (jobs : List Job) (tx : Tx) → HoldsSame actor jobs (jobs ++ new_job tx ∷ [])
  holds-snoc jobs tx number job = (
    λ h. record { stands = job-left jobs (new_job tx ∷ []) number job h.stands; held = h.held },
    λ h. elim (job-snoc jobs (new_job tx) job number h.stands) [
      | inl l ↦ record { stands = l; held = h.held }
      | inr r ↦ absurd (not_held (new_job tx) refl (sym (ap (λ (x : Job). x.status) r.1) ∙ h.held))
    ],
  )

  holds-change : (jobs : List Job) (changed : ℕ) (change : Job → Job) (one : Job) → job_at jobs changed ≡ Some one → (one.status ≡ Held actor → ⊥) → ((change one).status ≡ Held actor → ⊥)
      → HoldsSame actor jobs (change_job change jobs changed)
  holds-change jobs changed change one here before later number job = (
    λ h. record {
      stands = job-else jobs changed change number (λ e. before (subst (λ (x : Job). x.status ≡ Held actor) (same_Some job one (sym h.stands ∙ (ap (job_at jobs) e ∙ here))) h.held)) ∙ h.stands;
      held = h.held;
    },
    λ h. let c = job-change jobs changed change number job h.stands in elim c.now [
      | inl l ↦ record { stands = c.stood ∙ ap Some (sym l); held = h.held }
      | inr r ↦
          let was : c.was ≡ one = same_Some c.was one (sym c.stood ∙ (ap (job_at jobs) r.0 ∙ here)) in
          absurd (later (sym (ap (λ (x : Job). (change x).status) was) ∙ (sym (ap (λ (x : Job). x.status) r.1) ∙ h.held)))
    ],
  )

  -- of two jobs that are not held, the one that a test picks
  pub cond_held : (b : Bool) (one two : Job) → (one.status ≡ Held actor → ⊥) → (two.status ≡ Held actor → ⊥) → (cond b one two).status ≡ Held actor → ⊥
  cond_held true one two p q = p
  cond_held false one two p q = q

  -- held jobs outlast a seal
  holds-over : (sealed : List SealedBlock) (jobs : List Job) → HoldsSame actor jobs (map (drop_over sealed) jobs)
  holds-over sealed jobs number job = (
    λ h. record { stands = job-mapped jobs (drop_over sealed) number job h.stands ∙ ap Some (stays h.held); held = h.held },
    λ h. let m = job-map jobs (drop_over sealed) number job h.stands in by m.0 m.1 m.2 (is_over sealed m.0) refl h.held,
  )
    where
      not_over : (s : JobStatus) → s ≡ Held actor → (is_waiting s || is_done s) ≡ false
      not_over s e = ap (λ s. is_waiting s || is_done s) e

      stays : job.status ≡ Held actor → drop_over sealed job ≡ job
      stays e = ap (λ b. cond (b && is_settled job.tx.id sealed) (dropped job) job) (not_over job.status e)

      by : (was : Job) → job_at jobs number ≡ Some was → job ≡ drop_over sealed was → (b : Bool) → is_over sealed was ≡ b → job.status ≡ Held actor → Holds jobs actor number job
      by was stood is true e held = absurd (not_held (dropped was) refl (sym (ap (λ (x : Job). x.status) (is ∙ ap (λ b. cond b (dropped was) was) e)) ∙ held))
      by was stood is false e held = record { stands = stood ∙ ap Some (sym (is ∙ ap (λ b. cond b (dropped was) was) e)); held = held }

-- ---- one step of another

shows-self : (app : App) (sealed : List SealedBlock) → ShowsSame app sealed sealed
shows-self app sealed = record { tables = λ height low. refl; times = λ height low. refl; runs = λ tx low. refl }

-- a state with other jobs, of which an actor holds the same
same_blocks : (app : App) (actor : ℕ) (w later : World) → HoldsSame actor w.jobs later.jobs → later.sealed ≡ w.sealed → (actor ≡ 0 → later.work ≡ w.work) → IsLater app actor w later
same_blocks app actor w later held same own = record {
  held = held;
  more = [];
  sealed = same ∙ sym (append-nil w.sealed);
  shows = subst (ShowsSame app w.sealed) (sym same) (shows-self app w.sealed);
  own_sealed = λ z. same;
  own_work = own;
}

module _ (app : App) (w : World) (other actor : ℕ) (apart : other ≡ actor → ⊥) (facts : FactsHold app w) where
  read_status : (sealed : List SealedBlock) (job : Job) (o : Option access.Read) → (record_read app sealed job o).status ≡ job.status
  read_status sealed job None = refl
  read_status sealed job (Some read) = refl

  not_mine : (job : Job) → job.status ≡ Held other → job.status ≡ Held actor → ⊥
  not_mine job h k = apart (same_holder other actor (sym h ∙ k))

  waits_unheld : (s : JobStatus) → is_waiting s ≡ true → is_held s ≡ false
  waits_unheld Waiting e = refl
  waits_unheld (Held holder) e = absurd (false≢true e)
  waits_unheld Done e = absurd (false≢true e)
  waits_unheld Dropped e = absurd (false≢true e)

  -- an event that changes one job
  one_job : (number : ℕ) (change : Job → Job) (job : Job) → job_at w.jobs number ≡ Some job → (job.status ≡ Held actor → ⊥) → ((change job).status ≡ Held actor → ⊥)
      → IsLater app actor w (record w { jobs = change_job change w.jobs number })
  one_job number change job here before later = same_blocks app actor w _ (holds-change actor w.jobs number change job here before later) refl (λ z. refl)

  leaves : (journal : List Entry) (event : Event) → Allows app w other event → IsLater app actor w (record (happens app w other event) { journal = journal })
  leaves journal (Arrive number tx) a = same_blocks app actor w _ (holds-snoc actor w.jobs tx.value) refl (λ z. refl)
  leaves journal (Claim number) a =
      same_blocks app actor w _
      (holds-change actor w.jobs number (claimed other) a.job a.stands (not_held actor a.job (waits_unheld a.job.status a.waits)) (λ e. apart (same_holder other actor e))) refl (λ z. refl)
  leaves journal (Read number) a =
      same_blocks app actor w _
      (holds-change actor w.jobs number (read_on app w.sealed) a.job a.holds.stands (not_mine a.job a.holds.held)
      (λ e. not_mine a.job a.holds.held (sym (read_status w.sealed a.job (next_read app w.sealed a.job)) ∙ e))) refl (λ z. refl)
  leaves journal (Finish number) a =
      same_blocks app actor w _
      (holds-change actor w.jobs number (finished app w.sealed) a.job a.holds.stands (not_mine a.job a.holds.held)
      (cond_held actor (is_settled a.job.tx.id w.sealed) (dropped a.job) (record { tx = a.job.tx; status = Done; recorded = ended a.job.recorded (run_at app w.sealed a.job.tx) })
      (λ e. false≢true (ap is_held e)) (λ e. false≢true (ap is_held e)))) refl (λ z. refl)
  leaves journal (Release number) a =
      same_blocks app actor w _
      (holds-change actor w.jobs number (released w.sealed) a.0 a.1.stands (not_mine a.0 a.1.held)
      (cond_held actor (is_settled a.0.tx.id w.sealed) (dropped a.0) (new_job a.0.tx) (λ e. false≢true (ap is_held e)) (λ e. false≢true (ap is_held e)))) refl (λ z. refl)
  leaves journal (Deliver block) a =
      same_blocks app actor w _
      (grown app block.value.number (ids_of w.sealed) (HoldsSame actor w.jobs) (λ tx jobs can new e s. holds-trans actor w.jobs jobs (jobs ++ new_job tx ∷ []) s (holds-snoc actor jobs tx)) block.value.txs w.jobs
      (holds-self actor w.jobs))
      refl (λ z. absurd (apart (a.0 ∙ sym z)))
  leaves journal (Commit pos) a = same_blocks app actor w _ (holds-self actor w.jobs) refl (λ z. absurd (apart (a.0 ∙ sym z)))
  leaves journal (Seal number) a =
      let can = a.1 in
      let next = (facts.work_fits can.work can.in_work).next in
      let block : SealedBlock = sealed_as can.work.block can.work.done in
      let all : with_sealed w.sealed w.work ≡ w.sealed ++ block ∷ [] = ap (with_sealed w.sealed) can.in_work in
      let counted : AreCounted 1 (w.sealed ++ block ∷ []) = counted-append 1 w.sealed (block ∷ []) facts.counted (omega (arith, next), tt) in
      record {
        held = holds-over actor (with_sealed w.sealed w.work) w.jobs;
        more = block ∷ [];
        sealed = all;
        shows = subst (ShowsSame app w.sealed) (sym all) (shows-more app w.sealed (block ∷ []) counted);
        own_sealed = λ z. absurd (apart (a.0 ∙ sym z));
        own_work = λ z. absurd (apart (a.0 ∙ sym z));
      }

-- ---- all steps of others

shows-trans : (app : App) (u v w : List SealedBlock) → length u ≤ length v → ShowsSame app u v → ShowsSame app v w → ShowsSame app u w
shows-trans app u v w longer p q = record {
  tables = λ height low. q.tables height (omega (arith, low, longer)) ∙ p.tables height low;
  times = λ height low. q.times height (omega (arith, low, longer)) ∙ p.times height low;
  runs = λ tx low. q.runs tx (omega (arith, low, longer)) ∙ p.runs tx low;
}

later-trans : (app : App) (actor : ℕ) (u v w : World) → IsLater app actor u v → IsLater app actor v w → IsLater app actor u w
later-trans app actor u v w p q =
    let count = ap length p.sealed in
    let longer = length-append u.sealed p.more in
    record {
      held = holds-trans actor u.jobs v.jobs w.jobs p.held q.held;
      more = p.more ++ q.more;
      sealed = q.sealed ∙ (ap (λ xs. xs ++ q.more) p.sealed ∙ append_assoc u.sealed p.more q.more);
      shows = shows-trans app u.sealed v.sealed w.sealed (omega (arith, count, longer)) p.shows q.shows;
      own_sealed = λ z. q.own_sealed z ∙ p.own_sealed z;
      own_work = λ z. q.own_work z ∙ p.own_work z;
    }

none_first : (actor : ℕ) (entry : Entry) (entries : List Entry) → entries_by actor (entry ∷ entries) ≡ [] → ((entry.actor == actor) ≡ false) × (entries_by actor entries ≡ [])
none_first actor entry entries h = by (entry.actor == actor) h where
  by : (b : Bool) → cond b (entry ∷ entries_by actor entries) (entries_by actor entries) ≡ [] → (b ≡ false) × (entries_by actor entries ≡ [])
  by true h = let l = ap length h in absurd (omega (arith, l))
  by false h = (refl, h)

later_from : (app : App) (w : World) (others : List Entry) (actor : ℕ) → FactsHold app w → IsLegalFrom app w others → entries_by actor others ≡ [] → IsLater app actor w (world_from app w others)
later_from app w [] actor facts legal none = same_blocks app actor w w (holds-self actor w.jobs) refl (λ z. refl)
later_from app w (entry ∷ entries) actor facts legal none =
    let first = none_first actor entry entries none in
    later-trans app actor w (after app w entry) (world_from app (after app w entry) entries)
    (leaves app w entry.actor actor (λ same. false≢true (sym first.0 ∙ eq-eqb entry.actor actor same)) facts (w.journal ++ entry ∷ []) entry.event (steps_are_allowed app w entry facts legal.0))
    (later_from app (after app w entry) entries actor (steps_keep_facts app w entry facts legal.0) legal.1 first.1)

world-append : (app : App) (w : World) (xs ys : List Entry) → world_from app w (xs ++ ys) ≡ world_from app (world_from app w xs) ys
world-append app w [] ys = refl
world-append app w (x ∷ xs) ys = world-append app (after app w x) xs ys

-- with one entry more
pub world-more : (app : App) (w : World) (journal : List Entry) (entry : Entry) → world_from app w (journal ++ entry ∷ []) ≡ after app (world_from app w journal) entry
world-more app w journal entry = world-append app w journal (entry ∷ [])

legal-append : (app : App) (w : World) (xs ys : List Entry) → IsLegalFrom app w (xs ++ ys) → IsLegalFrom app w xs × IsLegalFrom app (world_from app w xs) ys
legal-append app w [] ys legal = (tt, legal)
legal-append app w (x ∷ xs) ys legal = let r = legal-append app (after app w x) xs ys legal.1 in ((legal.0, r.0), r.1)

-- a step more
pub legal_more : (app : App) (w : World) (journal : List Entry) (entry : Entry) → IsLegalFrom app w journal → IsStep app (world_from app w journal) entry → IsLegalFrom app w (journal ++ entry ∷ [])
legal_more app w [] entry legal step = (step, tt)
legal_more app w (first ∷ journal) entry legal step = (legal.0, legal_more app (after app w first) journal entry legal.1 step)

module _ (app : App) (journal others : List Entry) (legal : IsLegal app (journal ++ others)) where
  pub before_facts : FactsHold app (world app journal)
  before_facts = facts_from app empty journal (first_facts app) (legal-append app empty journal others legal).0

  later : (actor : ℕ) → entries_by actor others ≡ [] → IsLater app actor (world app journal) (world app (journal ++ others))
  later actor none =
      subst (IsLater app actor (world app journal)) (sym (world-append app empty journal others))
      (later_from app (world app journal) others actor before_facts (legal-append app empty journal others legal).1 none)

pub others_leave : OthersLeave
others_leave app journal others actor legal none = later app journal others legal actor none
