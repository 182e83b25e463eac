-- What a line comes to, by what its actor has in hand.
use Rattle.std.proofs.Common.{Bool, IsSome, None, Option, Some, ap, false, inl, inr, refl, subst, sym, true, ◌||◌, ◌∙◌, ◌≡◌, ◌⊎◌, ℕ}
use Rattle.std.proofs.lemmas.Bool.{false≢true}
use Rattle.std.specs.Option.{is_none, is_some, option_and_then, option_map}
use Rattle.std.specs.Prelude.{cond}
use Rattle.node_core.specs.Core.{Core, MayAsk, world_of}
use Rattle.node_core.specs.InHand.{InHand, job_in}
use Rattle.node_model.specs.Events.{next_read, settled_in}
use Rattle.node_model.specs.Steps.{Ask, Reply, ToClaim, ToFinish, ToRead, ToRelease, noted, reads, reads_unless, reply}
use Rattle.node_model.specs.World.{Holds, HoldsNone, job_at}
use Rattle.node_model.specs.declared.journal.Pick.{Pick}
use Rattle.rel_base.specs.declared.access.Read as access
use Rattle.schedule_sim.proofs.Holders.{holder_is, idle_is, none_holds}
use Rattle.schedule_sim.specs.Bare.{Takes, state_of}
use Rattle.schedule_sim.specs.InHands.{IsWorkOf, WasGone}
use Rattle.schedule_sim.specs.Running.{after_ask, held_by, is_at_end, to_claim, to_finish, to_read, to_release}

-- ---- an actor that holds no job

module _ (node : Core) (actor : ℕ) (none : HoldsNone (world_of node) actor) where
  idle : held_by actor (state_of node) ≡ None
  idle = idle_is actor (world_of node) none

  pub may_claim : (pick : Pick) → MayAsk node actor (ToClaim pick)
  may_claim pick = none_holds actor (world_of node) idle

  pub claim_asks : (pick : Pick) → to_claim (state_of node) actor pick ≡ Some (ToClaim pick)
  claim_asks pick = ap (λ (o : Option ℕ). cond {A = Option Ask} (is_some o) None (Some (ToClaim pick))) idle

  pub read_idle : to_read node.app (state_of node) actor ≡ None
  read_idle = ap (option_and_then (λ number. cond (is_at_end node.app (state_of node) (job_at (state_of node).jobs number)) None (Some (ToRead number)))) idle

  pub finish_idle : to_finish node.app (state_of node) actor ≡ None
  finish_idle = ap (option_and_then (λ number. cond (is_at_end node.app (state_of node) (job_at (state_of node).jobs number)) (Some (ToFinish number)) None)) idle

  pub release_idle : to_release (state_of node) actor ≡ None
  release_idle = ap (option_map ToRelease) idle

-- ---- an actor that holds a job

module _ (node : Core) (actor : ℕ) (work : InHand) (is : IsWorkOf node actor work) where
  holds : Holds (world_of node).jobs actor work.job (job_in work)
  holds = subst (λ n. Holds (world_of node).jobs n work.job (job_in work)) is.same is.held.holds

  held : held_by actor (state_of node) ≡ Some work.job
  held = holder_is actor work.job (world_of node) (job_in work) holds is.only

  pub claim_held : (pick : Pick) → to_claim (state_of node) actor pick ≡ None
  claim_held pick = ap (λ (o : Option ℕ). cond {A = Option Ask} (is_some o) None (Some (ToClaim pick))) held

  pub release_asks : to_release (state_of node) actor ≡ Some (ToRelease work.job)
  release_asks = ap (option_map ToRelease) held

  pub may_release : MayAsk node work.actor (ToRelease work.job)
  may_release = (job_in work, is.held.holds)

  -- whether its run is at its end
  goes_on : MayAsk node work.actor (ToRead work.job) → is_at_end node.app (state_of node) (job_at (state_of node).jobs work.job) ≡ false
  goes_on may =
      ap (is_at_end node.app (state_of node)) may.1.stands
      ∙ ap (λ b. b || is_none (next_read node.app (world_of node).sealed may.0)) may.2
      ∙ some_not (next_read node.app (world_of node).sealed may.0) may.3
    where
      some_not : (o : Option access.Read) → IsSome o → is_none o ≡ false
      some_not None some = absurd (false≢true some)
      some_not (Some read) some = refl

  is_over : MayAsk node work.actor (ToFinish work.job) → is_at_end node.app (state_of node) (job_at (state_of node).jobs work.job) ≡ true
  is_over may = ap (is_at_end node.app (state_of node)) may.1.stands ∙ by may.0.recorded.cut refl may.2
    where
      by : (b : Bool) → may.0.recorded.cut ≡ b → (may.0.recorded.cut ≡ true) ⊎ (next_read node.app (world_of node).sealed may.0 ≡ None)
          → (may.0.recorded.cut || is_none (next_read node.app (world_of node).sealed may.0)) ≡ true
      by true e m = ap (λ b. b || is_none (next_read node.app (world_of node).sealed may.0)) e
      by false e (inl cut) = absurd (false≢true (sym e ∙ cut))
      by false e (inr none) = ap (λ b. b || is_none (next_read node.app (world_of node).sealed may.0)) e ∙ ap is_none none

  pub read_asks : MayAsk node work.actor (ToRead work.job) → to_read node.app (state_of node) actor ≡ Some (ToRead work.job)
  read_asks may =
      ap (option_and_then (λ number. cond (is_at_end node.app (state_of node) (job_at (state_of node).jobs number)) None (Some (ToRead number)))) held
      ∙ ap (λ b. cond {A = Option Ask} b None (Some (ToRead work.job))) (goes_on may)

  pub read_over : MayAsk node work.actor (ToFinish work.job) → to_read node.app (state_of node) actor ≡ None
  read_over may =
      ap (option_and_then (λ number. cond (is_at_end node.app (state_of node) (job_at (state_of node).jobs number)) None (Some (ToRead number)))) held
      ∙ ap (λ b. cond {A = Option Ask} b None (Some (ToRead work.job))) (is_over may)

  pub finish_asks : MayAsk node work.actor (ToFinish work.job) → to_finish node.app (state_of node) actor ≡ Some (ToFinish work.job)
  finish_asks may =
      ap (option_and_then (λ number. cond (is_at_end node.app (state_of node) (job_at (state_of node).jobs number)) (Some (ToFinish number)) None)) held
      ∙ ap (λ b. cond {A = Option Ask} b (Some (ToFinish work.job)) None) (is_over may)

  pub finish_goes : MayAsk node work.actor (ToRead work.job) → to_finish node.app (state_of node) actor ≡ None
  finish_goes may =
      ap (option_and_then (λ number. cond (is_at_end node.app (state_of node) (job_at (state_of node).jobs number)) (Some (ToFinish number)) None)) held
      ∙ ap (λ b. cond {A = Option Ask} b (Some (ToFinish work.job)) None) (goes_on may)

  -- a read of a job whose id is settled changes nothing
  pub read_gone : WasGone node work → Takes node actor (to_read node.app (state_of node) actor) node
  read_gone gone = record {
    app = refl;
    state = sym (ap (after_ask node.app (state_of node) actor) (read_asks gone.may) ∙ nothing (settled_in work.told.tx.id (world_of node).sealed) refl gone.settled);
  }
    where
      nothing : (o : Option ℕ) → settled_in work.told.tx.id (world_of node).sealed ≡ o → is_some (settled_in work.told.tx.id (world_of node).sealed) ≡ true
          → noted node.app (state_of node) actor (reply node.app (state_of node) (ToRead work.job)).1 ≡ state_of node
      nothing None e settled = absurd (false≢true (sym (ap is_some e) ∙ settled))
      nothing (Some block) e settled =
          ap (λ (r : Reply). noted node.app (state_of node) actor r.1)
          (ap (reads node.app (state_of node) work.job) holds.stands ∙ ap (reads_unless node.app (state_of node) work.job (job_in work)) e)

-- what is asked is what a node took a step for
pub took : (old new : Core) (actor : ℕ) (asked asks : Option Ask) → asked ≡ asks → Takes old actor asks new → Takes old actor asked new
took old new actor asked asks is = subst (λ o. Takes old actor o new) (sym is)
