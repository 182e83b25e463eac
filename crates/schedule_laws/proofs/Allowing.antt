-- What an entry of a step means.
use Rattle.std.proofs.Common.{Bool, None, Option, Some, ap, cond, false, length, refl, subst, sym, true, ◌+◌, ◌==◌, ◌∙◌, ◌≡◌, ℕ}
use Rattle.node_model.specs.Events.{is_settled, settled_in}
use Rattle.node_model.specs.Steps as steps
use Rattle.node_model.specs.Steps.{Answer, Ask, May, Reply, ToArrive, ToClaim, ToCommit, ToDeliver, ToFinish, ToRead, ToRelease, ToSeal, chosen, claims, commits, commits_due, delivers, finishes, is_known, is_ready, reads, reads_unless, reply, seals, seals_due}
use Rattle.node_model.specs.World.{BlockInWork, World, decided, due, job_of}
use Rattle.node_model.specs.declared.journal.Event.TheVariants.{Arrive, Claim, Commit, Deliver, Finish, Read, Release, Seal}
use Rattle.node_model.specs.declared.journal.Event.{Event}
use Rattle.proc_syntax.specs.Call.{call_fault}
use Rattle.proc_syntax.specs.declared.call.Tx.{Tx}
use Rattle.proc_syntax.specs.declared.tree.App.{App}
use Rattle.schedule_laws.proofs.Choosing.{chosen_free}
use Rattle.schedule_laws.specs.Allowed.{Allows}
use Rattle.schedule_laws.specs.Facts.{FactsHold}
use Rattle.schedule_laws.specs.Laws.{StepsAreAllowed}
use Rattle.std.proofs.lemmas.Bool.{eqb-true, or_parts}
use Rattle.std.proofs.lemmas.Option.{none-some, same_Some}
use Rattle.std.specs.Option.{is_some}
use Rattle.rel_base.proofs.Lists.{not_some}

past : (b : Bool) (x : Answer) (r : Reply) (e : Event) → (cond b (x, None) r).1 ≡ Some e → (b ≡ false) × (r.1 ≡ Some e)
past true x r e h = absurd (none-some e h)
past false x r e h = (refl, h)

took : (b : Bool) (x : Answer) (r : Reply) (e : Event) → (cond b r (x, None)).1 ≡ Some e → (b ≡ true) × (r.1 ≡ Some e)
took true x r e h = (refl, h)
took false x r e h = absurd (none-some e h)

module _ (app : App) (w : World) (actor : ℕ) (facts : FactsHold app w) where
  allowed : (ask : Ask) (event : Event) → May app w actor ask → (reply app w ask).1 ≡ Some event → Allows app w actor event
  allowed (ToArrive tx) event may told =
      let a = past (is_some (call_fault app tx.value)) steps.Invalid _ event told in
      let b = past (is_known w tx.value) steps.Known _ event a.1 in
      let c = or_parts (is_some (job_of tx.value w.jobs)) _ b.0 in
      let d = or_parts (is_settled tx.value.id w.sealed) _ c.1 in
      subst (Allows app w actor) (same_Some (Arrive (length w.jobs + 1) tx) event b.1)
      (refl, record { can = not_some (call_fault app tx.value) a.0; no_job = not_some (job_of tx.value w.jobs) c.0; not_settled = d.0 })
  allowed (ToClaim pick) event may told = by (chosen app w pick) refl told where
    by : (o : Option ℕ) → chosen app w pick ≡ o → (claims o).1 ≡ Some event → Allows app w actor event
    by None is e = absurd (none-some event e)
    by (Some number) is e =
        subst (Allows app w actor) (same_Some (Claim number) event e) (chosen_free app w (λ work in_work. (facts.work_fits work in_work).next) pick number is)
  allowed (ToRead number) event may told = by (settled_in may.0.tx.id w.sealed) refl (ap (λ o. (reads app w number o).1) (sym may.1.stands) ∙ told) where
    by : (o : Option ℕ) → settled_in may.0.tx.id w.sealed ≡ o → (reads_unless app w number may.0 o).1 ≡ Some event → Allows app w actor event
    by (Some block) is e = absurd (none-some event e)
    by None is e =
        subst (Allows app w actor) (same_Some (Read number) event e) (record { job = may.0; holds = may.1; not_cut = may.2; next = may.3; not_settled = is })
  allowed (ToFinish number) event may told =
      subst (Allows app w actor) (same_Some (Finish number) event (ap (λ o. (finishes w number o).1) (sym may.1.stands) ∙ told))
      (record { job = may.0; holds = may.1; at_end = may.2 })
  allowed (ToRelease number) event may told = subst (Allows app w actor) (same_Some (Release number) event told) may
  allowed (ToDeliver block) event may told = by w.work refl told where
    by : (o : Option BlockInWork) → w.work ≡ o → (delivers w block o).1 ≡ Some event → Allows app w actor event
    by (Some work) is e = absurd (none-some event e)
    by None is e =
        let a = took (block.value.number == (length w.sealed + 1)) (steps.NotNext (length w.sealed + 1)) _ event e in
        subst (Allows app w actor) (same_Some (Deliver block) event a.1) (may, is, eqb-true block.value.number (length w.sealed + 1) a.0)
  allowed ToCommit event may told = by w.work refl told where
    by_due : (work : BlockInWork) → w.work ≡ Some work → (t : Option Tx) → due work ≡ t → (commits_due app w work t).1 ≡ Some event → Allows app w actor event
    by_due work is None next e = absurd (none-some event e)
    by_due work is (Some tx) next e =
        let a = took (is_ready app w work tx) _ _ event e in
        subst (Allows app w actor) (same_Some (Commit (decided work + 1)) event a.1) (may, record { work = work; in_work = is; tx = tx; is_due = next; ready = a.0; at = refl })

    by : (o : Option BlockInWork) → w.work ≡ o → (commits app w o).1 ≡ Some event → Allows app w actor event
    by None is e = absurd (none-some event e)
    by (Some work) is e = by_due work is (due work) refl e
  allowed ToSeal event may told = by w.work refl told where
    by_due : (work : BlockInWork) → w.work ≡ Some work → (t : Option Tx) → due work ≡ t → (seals_due app w work t).1 ≡ Some event → Allows app w actor event
    by_due work is (Some tx) next e = absurd (none-some event e)
    by_due work is None next e = subst (Allows app w actor) (same_Some (Seal work.block.number) event e) (may, record { work = work; in_work = is; all_decided = next; at = refl })

    by : (o : Option BlockInWork) → w.work ≡ o → (seals app w o).1 ≡ Some event → Allows app w actor event
    by None is e = absurd (none-some event e)
    by (Some work) is e = by_due work is (due work) refl e

pub steps_are_allowed : StepsAreAllowed
steps_are_allowed app w entry facts step = allowed app w entry.actor facts step.ask entry.event step.may step.told
