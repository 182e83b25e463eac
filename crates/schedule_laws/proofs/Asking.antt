-- What an actor might ask it may ask still, and what actor 0 delivers.
use Rattle.std.proofs.Common.{Bool, IsSome, List, None, Option, Some, [], ap, cond, false, inl, inr, length, refl, subst, suc, sym, true, zero, ◌++◌, ◌==◌, ◌||◌, ◌∙◌, ◌≡◌, ◌⊎◌, ◌∷◌, ℕ}
use Rattle.node_model.specs.Events.{after, next_read}
use Rattle.node_model.specs.Fold.{fold}
use Rattle.node_model.specs.Journals.{IsLegalFrom, delivered, delivery, world}
use Rattle.node_model.specs.Steps as steps
use Rattle.node_model.specs.Steps.{Answer, Ask, May, ToArrive, ToClaim, ToCommit, ToDeliver, ToFinish, ToRead, ToRelease, ToSeal, claims}
use Rattle.node_model.specs.World.{Done, Dropped, Held, Holds, Job, JobStatus, Waiting, World, empty, is_done, is_held, is_held_by}
use Rattle.node_model.specs.declared.journal.Entry.{Entry}
use Rattle.node_model.specs.declared.journal.Event.TheVariants.{Arrive, Claim, Commit, Deliver, Finish, Read, Release, Seal}
use Rattle.node_model.specs.declared.journal.Event.{Event}
use Rattle.proc_syntax.specs.declared.run.Ran.{Ran}
use Rattle.proc_syntax.specs.declared.tree.App.{App}
use Rattle.rel_base.specs.declared.access.Made.{Made}
use Rattle.schedule_laws.proofs.Allowing.{steps_are_allowed}
use Rattle.schedule_laws.proofs.Facts.{first_facts, steps_keep_facts}
use Rattle.schedule_laws.proofs.Agreeing.{all_sealed}
use Rattle.schedule_laws.specs.Allowed.{Allows}
use Rattle.schedule_laws.specs.Facts.{FactsHold}
use Rattle.schedule_laws.specs.Laws.{FoldOfOwn, MayStays, OwnDeliveries}
use Rattle.schedule_laws.specs.Stable.{IsLater, entries_by}
use Rattle.std.proofs.lemmas.Bool.{cases_Bool, eq-eqb, eqb-true, false≢true, or_left}
use Rattle.std.proofs.lemmas.Option.{none-some, same_Some}
use Rattle.std.specs.List.{list_any, slice_get}
use Rattle.std.specs.Option.{option_map}
use Rattle.schedule_laws.proofs.Lasting.{before_facts, others_leave}

-- ---- what a claim answers

abbrev number_in : Answer → Option ℕ
number_in (steps.Claimed number) = Some number
number_in _ = None

-- a job was claimed, so that it was the one to claim
pub claimed_is : (o : Option ℕ) (number : ℕ) → steps.Claimed number ≡ (claims o).0 → o ≡ Some number
claimed_is None number e = absurd (none-some number (sym (ap number_in e)))
claimed_is (Some other) number e = ap (λ n. Some n) (same_Some other number (sym (ap number_in e)))

-- none was claimed, so that there was none
pub none_claimed : (o : Option ℕ) → steps.NoJob ≡ (claims o).0 → o ≡ None
none_claimed None e = refl
none_claimed (Some other) e = absurd (none-some other (ap number_in e))

-- ---- what may be asked

-- where any job is held by an actor, one of a number is
pub holds_any : (actor : ℕ) (jobs : List Job) → list_any (λ job. is_held_by actor job.status) jobs ≡ true → (number : ℕ) × (job : Job) × Holds jobs actor number job
holds_any actor [] e = absurd (false≢true e)
holds_any actor (y ∷ ys) e =
    (elim (is_held_by actor y.status) as (λ b. is_held_by actor y.status ≡ b → (b || list_any (λ job. is_held_by actor job.status) ys) ≡ true → (number : ℕ) × (job : Job) × Holds (y ∷ ys) actor number job) [
      | true ↦ λ is e. (1, y, record { stands = refl; held = holder y.status is })
      | false ↦ λ is e. let r = holds_any actor ys e in deeper r.0 r.1 r.2
    ]) refl e
  where
    holder : (s : JobStatus) → is_held_by actor s ≡ true → s ≡ Held actor
    holder Waiting e = absurd (false≢true e)
    holder (Held other) e = ap Held (eqb-true other actor e)
    holder Done e = absurd (false≢true e)
    holder Dropped e = absurd (false≢true e)

    deeper : (number : ℕ) (job : Job) → Holds ys actor number job → (number : ℕ) × (job : Job) × Holds (y ∷ ys) actor number job
    deeper zero job h = absurd (none-some job h.stands)
    deeper (suc place) job h = (suc (suc place), job, record { stands = h.stands; held = h.held })

any_held : (actor : ℕ) (jobs : List Job) (place : ℕ) (job : Job) → slice_get jobs place ≡ Some job → job.status ≡ Held actor → list_any (λ job. is_held_by actor job.status) jobs ≡ false → ⊥
any_held actor [] place job here held e = none-some job here
any_held actor (y ∷ ys) zero job here held e =
    false≢true (sym e ∙ or_left (is_held_by actor y.status) _ (ap (is_held_by actor) (ap (λ (x : Job). x.status) (same_Some y job here) ∙ held) ∙ eq-eqb actor actor refl))
any_held actor (y ∷ ys) (suc place) job here held e = any_held actor ys place job here held (by (is_held_by actor y.status) (list_any (λ job. is_held_by actor job.status) ys) e) where
  by : (a b : Bool) → (a || b) ≡ false → b ≡ false
  by true b e = absurd (false≢true (sym e))
  by false b e = e

any_holds : (actor : ℕ) (jobs : List Job) (number : ℕ) (job : Job) → Holds jobs actor number job → list_any (λ job. is_held_by actor job.status) jobs ≡ false → ⊥
any_holds actor jobs zero job h e = none-some job h.stands
any_holds actor jobs (suc place) job h e = any_held actor jobs place job h.stands h.held e

module _ (app : App) (w later : World) (actor : ℕ) (facts : FactsHold app w) (l : IsLater app actor w later) where
  same_next : (number : ℕ) (job : Job) → Holds w.jobs actor number job → next_read app later.sealed job ≡ next_read app w.sealed job
  same_next number job h =
      let low = (facts.jobs_fit number job h.stands).low (or_left (is_held job.status) (is_done job.status) (ap is_held h.held)) in
      ap (λ (ran : Ran). option_map (λ (made : Made). made.read) (slice_get ran.reads (length job.recorded.ran.reads))) (l.shows.runs job.tx low)

  holds : (number : ℕ) (job : Job) → Holds w.jobs actor number job → Holds later.jobs actor number job
  holds number job h = (l.held number job).0 h

  unheld : list_any (λ job. is_held_by actor job.status) w.jobs ≡ false → list_any (λ job. is_held_by actor job.status) later.jobs ≡ false
  unheld e = elim (cases_Bool (list_any (λ job. is_held_by actor job.status) later.jobs)) [
    | inl t ↦ let r = holds_any actor later.jobs t in absurd (any_holds actor w.jobs r.0 r.1 ((l.held r.0 r.1).1 r.2) e)
    | inr f ↦ f
  ]

  may_later : (ask : Ask) → May app w actor ask → May app later actor ask
  may_later (ToArrive tx) m = tt
  may_later (ToClaim pick) m = unheld m
  may_later (ToRead number) m = (m.0, holds number m.0 m.1, m.2, subst (λ o. IsSome o) (sym (same_next number m.0 m.1)) m.3)
  may_later (ToFinish number) m = (m.0, holds number m.0 m.1, subst (λ o. (m.0.recorded.cut ≡ true) ⊎ (o ≡ None)) (sym (same_next number m.0 m.1)) m.2)
  may_later (ToRelease number) m = (m.0, holds number m.0 m.1)
  may_later (ToDeliver block) m = m
  may_later ToCommit m = m
  may_later ToSeal m = m

pub may_stays : MayStays
may_stays app journal others actor ask legal none may =
    may_later app (world app journal) (world app (journal ++ others)) actor (before_facts app journal others legal) (others_leave app journal others actor legal none) ask may

-- ---- what actor 0 delivers

none_delivered : (app : App) (w : World) (actor : ℕ) (event : Event) → Allows app w actor event → (actor == 0) ≡ false → delivery event ≡ []
none_delivered app w actor (Arrive number tx) a other = refl
none_delivered app w actor (Claim number) a other = refl
none_delivered app w actor (Read number) a other = refl
none_delivered app w actor (Finish number) a other = refl
none_delivered app w actor (Release number) a other = refl
none_delivered app w actor (Deliver block) a other = absurd (false≢true (sym other ∙ eq-eqb actor 0 a.0))
none_delivered app w actor (Commit pos) a other = refl
none_delivered app w actor (Seal number) a other = refl

own_from : (app : App) (w : World) (journal : List Entry) → FactsHold app w → IsLegalFrom app w journal → delivered (entries_by 0 journal) ≡ delivered journal
own_from app w [] facts legal = refl
own_from app w (entry ∷ entries) facts legal =
    by (entry.actor == 0) (λ other. none_delivered app w entry.actor entry.event (steps_are_allowed app w entry facts legal.0) other)
    (own_from app (after app w entry) entries (steps_keep_facts app w entry facts legal.0) legal.1)
  where
    by : (b : Bool) → (b ≡ false → delivery entry.event ≡ []) → delivered (entries_by 0 entries) ≡ delivered entries
        → delivered (cond b (entry ∷ entries_by 0 entries) (entries_by 0 entries)) ≡ delivery entry.event ++ delivered entries
    by true none rest = ap (λ blocks. delivery entry.event ++ blocks) rest
    by false none rest = rest ∙ sym (ap (λ blocks. blocks ++ delivered entries) (none refl))

pub own_deliveries : OwnDeliveries
own_deliveries app journal legal = own_from app empty journal (first_facts app) legal

pub fold_of_own : FoldOfOwn
fold_of_own app journal legal idle = all_sealed app journal legal idle ∙ ap (fold app) (sym (own_deliveries app journal legal))
