-- A step is the same step whatever place in memory has what the journal shares.
use Rattle.std.proofs.Common.{Bool, List, None, Option, Some, [], ap, cond, false, length, refl, sym, true, ◌+◌, ◌++◌, ◌==◌, ◌∙◌, ◌≡◌, ◌∷◌, ℕ}
use Rattle.std.proofs.lemmas.List.{map-append}
use Rattle.std.specs.Option.{is_some, option_map}
use Rattle.node_core.proofs.Journal.{world_grown}
use Rattle.node_core.specs.Core.{Core, Steps, world_of}
use Rattle.node_model.specs.Events.{happens, settled_in}
use Rattle.node_model.specs.Journals.{delivered, delivery}
use Rattle.node_model.specs.Steps as steps
use Rattle.node_model.specs.Steps.{Answer, Ask, Reply, ToArrive, ToClaim, ToCommit, ToDeliver, ToFinish, ToRead, ToRelease, ToSeal, chosen, claims, commits, commits_due, delivers, finishes, is_known, is_ready, noted, reads, reads_unless, reply, seals, seals_due}
use Rattle.node_model.specs.World.{BlockInWork, Job, World, decided, due, job_at}
use Rattle.node_model.specs.declared.journal.Entry.{Entry}
use Rattle.node_model.specs.declared.journal.Event.TheVariants.{Arrive, Claim, Commit, Deliver, Finish, Read, Release, Seal}
use Rattle.node_model.specs.declared.journal.Event.{Event}
use Rattle.proc_syntax.specs.Call.{call_fault}
use Rattle.proc_syntax.specs.declared.call.Tx.{Tx}
use Rattle.proc_syntax.specs.declared.tree.App.{App}
use Rattle.schedule_sim.specs.Bare.{Takes, bare_entry, bare_event, bare_journal, bare_world, state_of}
use Rattle.schedule_sim.specs.Running.{after_ask, shared}

-- ---- what is asked and answered

abbrev pub bare_ask : Ask → Ask
bare_ask (ToArrive tx) = ToArrive (shared tx.value)
bare_ask (ToClaim pick) = ToClaim pick
bare_ask (ToRead number) = ToRead number
bare_ask (ToFinish number) = ToFinish number
bare_ask (ToRelease number) = ToRelease number
bare_ask (ToDeliver block) = ToDeliver (shared block.value)
bare_ask ToCommit = ToCommit
bare_ask ToSeal = ToSeal

abbrev pub bare_reply : Reply → Reply
bare_reply told = (told.0, option_map bare_event told.1)

past : (b : Bool) (x : Answer) (one two : Reply) → one ≡ bare_reply two → cond b (x, None) one ≡ bare_reply (cond b (x, None) two)
past true x one two e = refl
past false x one two e = e

took : (b : Bool) (x : Answer) (one two : Reply) → one ≡ bare_reply two → cond b one (x, None) ≡ bare_reply (cond b two (x, None))
took true x one two e = e
took false x one two e = refl

pub reply_bared : (app : App) (w : World) (ask : Ask) → reply app (bare_world w) (bare_ask ask) ≡ bare_reply (reply app w ask)
reply_bared app w (ToArrive tx) =
    past (is_some (call_fault app tx.value)) steps.Invalid _ _ (past (is_known w tx.value) steps.Known (steps.Queued, Some (Arrive (length w.jobs + 1) (shared tx.value))) (steps.Queued, Some (Arrive (length w.jobs + 1) tx)) refl)
reply_bared app w (ToClaim pick) = by (chosen app w pick) where
  by : (o : Option ℕ) → claims o ≡ bare_reply (claims o)
  by None = refl
  by (Some number) = refl
reply_bared app w (ToRead number) = by (job_at w.jobs number) where
  by_settled : (job : Job) (o : Option ℕ) → reads_unless app (bare_world w) number job o ≡ bare_reply (reads_unless app w number job o)
  by_settled job None = refl
  by_settled job (Some block) = refl

  by : (o : Option Job) → reads app (bare_world w) number o ≡ bare_reply (reads app w number o)
  by None = refl
  by (Some job) = by_settled job (settled_in job.tx.id w.sealed)
reply_bared app w (ToFinish number) = by (job_at w.jobs number) where
  by : (o : Option Job) → finishes (bare_world w) number o ≡ bare_reply (finishes w number o)
  by None = refl
  by (Some job) = refl
reply_bared app w (ToRelease number) = refl
reply_bared app w (ToDeliver block) = by w.work where
  by : (o : Option BlockInWork) → delivers (bare_world w) (shared block.value) o ≡ bare_reply (delivers w block o)
  by None = took (block.value.number == (length w.sealed + 1)) (steps.NotNext (length w.sealed + 1)) (steps.Taken, Some (Deliver (shared block.value))) (steps.Taken, Some (Deliver block)) refl
  by (Some work) = refl
reply_bared app w ToCommit = by w.work where
  by_due : (work : BlockInWork) (t : Option Tx) → commits_due app (bare_world w) work t ≡ bare_reply (commits_due app w work t)
  by_due work None = refl
  by_due work (Some tx) = took (is_ready app w work tx) _ (steps.Decided (decided work + 1), Some (Commit (decided work + 1))) (steps.Decided (decided work + 1), Some (Commit (decided work + 1))) refl

  by : (o : Option BlockInWork) → commits app (bare_world w) o ≡ bare_reply (commits app w o)
  by None = refl
  by (Some work) = by_due work (due work)
reply_bared app w ToSeal = by w.work where
  by_due : (work : BlockInWork) (t : Option Tx) → seals_due app (bare_world w) work t ≡ bare_reply (seals_due app w work t)
  by_due work None = refl
  by_due work (Some tx) = refl

  by : (o : Option BlockInWork) → seals app (bare_world w) o ≡ bare_reply (seals app w o)
  by None = refl
  by (Some work) = by_due work (due work)

-- ---- the state after an event

happens_bared : (app : App) (w : World) (actor : ℕ) (event : Event) (journal : List Entry) → record (happens app (bare_world w) actor (bare_event event)) { journal = journal } ≡ record (happens app w actor event) { journal = journal }
happens_bared app w actor (Arrive number tx) journal = refl
happens_bared app w actor (Claim number) journal = refl
happens_bared app w actor (Read number) journal = refl
happens_bared app w actor (Finish number) journal = refl
happens_bared app w actor (Release number) journal = refl
happens_bared app w actor (Deliver block) journal = refl
happens_bared app w actor (Commit pos) journal = refl
happens_bared app w actor (Seal number) journal = refl

noted_bared : (app : App) (w : World) (actor : ℕ) (o : Option Event) → bare_world (noted app w actor o) ≡ noted app (bare_world w) actor (option_map bare_event o)
noted_bared app w actor None = refl
noted_bared app w actor (Some event) =
    ap (λ journal. record (happens app w actor event) { journal = journal }) (map-append bare_entry w.journal (record { actor = actor; event = event } ∷ []))
    ∙ sym (happens_bared app w actor event (bare_journal w.journal ++ record { actor = actor; event = bare_event event } ∷ []))

-- ---- a call is a step of the schedule

pub stepped : (old new : Core) (actor : ℕ) (ask : Ask) (answer : Answer) → Steps old actor ask answer new → Takes old actor (Some (bare_ask ask)) new
stepped old new actor ask answer is =
    let new_is = ap (λ (p : Answer × Core). p.1) is in
    record {
      app = ap (λ (core : Core). core.app) new_is;
      state = ap state_of new_is
          ∙ ap bare_world (world_grown old.app old.journal actor (reply old.app (world_of old) ask).1)
          ∙ noted_bared old.app (world_of old) actor (reply old.app (world_of old) ask).1
          ∙ ap (λ (told : Reply). noted old.app (state_of old) actor told.1) (sym (reply_bared old.app (world_of old) ask));
    }

-- nothing is asked
pub stays : (old new : Core) (actor : ℕ) (asked : Option Ask) → new ≡ old → asked ≡ None → Takes old actor asked new
stays old new actor asked same none = record {
  app = ap (λ (core : Core). core.app) same;
  state = ap state_of same ∙ ap (after_ask old.app (state_of old) actor) (sym none);
}

-- the blocks that a journal delivers
pub delivered_bared : (journal : List Entry) → delivered (bare_journal journal) ≡ delivered journal
delivered_bared [] = refl
delivered_bared (entry ∷ journal) = ap (λ front. front ++ delivered (bare_journal journal)) (same entry.event) ∙ ap (λ rest. delivery entry.event ++ rest) (delivered_bared journal)
  where
    same : (event : Event) → delivery (bare_event event) ≡ delivery event
    same (Arrive number tx) = refl
    same (Claim number) = refl
    same (Read number) = refl
    same (Finish number) = refl
    same (Release number) = refl
    same (Deliver block) = refl
    same (Commit pos) = refl
    same (Seal number) = refl
