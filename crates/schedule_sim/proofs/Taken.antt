-- Each call of a node is the step of its line, and leaves in all hands what they hold.
use Rattle.std.specs.Prelude.{IfOk, is_err}
use Rattle.std.proofs.Common.{Err, List, None, Ok, Option, Result, Some, ap, arith, false, refl, slice_get, subst, sym, true, ◌∙◌, ◌≡◌, length, ℕ}
use Rattle.std.proofs.lemmas.Bool.{false≢true}
use Rattle.std.specs.Option.{is_some, option_map}
use Rattle.node_core.specs.Answers.{got_as}
use Rattle.node_core.specs.Core.{Arrives, Core, Delivers, IsHeld, MayAsk, Steps, world_of}
use Rattle.node_core.specs.Hands.{GoesOn, IsAnswered, IsClaimed, Says}
use Rattle.node_core.specs.InHand.{InHand, IsSameRun}
use Rattle.node_core.specs.declared.answers.Got.{Got}
use Rattle.node_core.specs.declared.answers.Next.TheVariants as next
use Rattle.node_core.specs.declared.answers.Next.{Next}
use Rattle.node_model.specs.Journals.{IsLegal}
use Rattle.node_model.specs.Steps.{Answer, Ask, Claimed, NoJob, ToArrive, ToClaim, ToDeliver, ToFinish, ToRead, ToRelease}
use Rattle.node_model.specs.declared.journal.Pick.{Pick}
use Rattle.node_model.specs.World.{HoldsNone}
use Rattle.proc_syntax.specs.declared.call.Block.{Block}
use Rattle.proc_syntax.specs.declared.call.Tx.{Tx}
use Rattle.schedule_sim.proofs.Bared.{stays, stepped}
use Rattle.schedule_sim.proofs.Keeping.{KeepsOthers, but_idle, keeps_same, outside, own, own_idle}
use Rattle.schedule_sim.proofs.Lines.{claim_asks, claim_held, finish_asks, finish_goes, may_claim, may_release, read_asks, read_gone, read_over, release_asks, took}
use Rattle.schedule_sim.proofs.Moves.{claims_none, claims_work, finishes_work, keeps, legal_new, reads_work, releases_work}
use Rattle.schedule_sim.specs.Bare.{Takes, state_of}
use Rattle.schedule_sim.specs.InHands.{AreInHands, AreInHandsBut, IsHand, IsPut, IsWorkOf, hand_of}
use Rattle.schedule_sim.specs.Running.{arrival, shared, to_arrive, to_claim, to_deliver, to_finish, to_read, to_release}
use Rattle.schedule_sim.specs.Steps.{IsActor}

-- ---- steps of those who hold nothing

pub step_hands : (old new : Core) (actor : ℕ) (ask : Ask) (answer : Answer) (hands : List (Option InHand)) → (IsActor actor → ⊥) → MayAsk old actor ask → Steps old actor ask answer new → AreInHands old hands → AreInHands new hands
step_hands old new actor ask answer hands none may step are =
    outside old new actor hands none are (legal_new old actor ask are.legal may new answer step) (keeps old actor ask are.legal may new answer step)

pub no_bringer : IsActor 17 → ⊥
no_bringer is = let high = is.1 in omega (arith, high)

pub no_processor : IsActor 0 → ⊥
no_processor is = let low = is.0 in omega (arith, low)

pub arrive_takes : (old new : Core) (arrivals : List Tx) (number : ℕ) (tx : Tx) (answer : Answer) → arrival arrivals number ≡ Some tx → Arrives old 17 tx answer new → Takes old 17 (to_arrive arrivals number) new
arrive_takes old new arrivals number tx answer here arrives =
    took old new 17 (to_arrive arrivals number) (Some (ToArrive (shared arrives.shared.value)))
    (ap (option_map (λ tx. ToArrive (shared tx))) here ∙ ap (λ tx. Some (ToArrive (shared tx))) (sym arrives.same)) (stepped old new 17 (ToArrive arrives.shared) answer arrives.step)

pub arrive_hands : (old new : Core) (tx : Tx) (answer : Answer) (hands : List (Option InHand)) → Arrives old 17 tx answer new → AreInHands old hands → AreInHands new hands
arrive_hands old new tx answer hands arrives are = step_hands old new 17 (ToArrive arrives.shared) answer hands no_bringer tt arrives.step are

pub deliver_takes : (old new : Core) (blocks : List Block) (height : ℕ) (block : Block) (answer : Answer) → height ≡ length (world_of old).sealed → slice_get blocks height ≡ Some block → Delivers old 0 block answer new
    → Takes old 0 (to_deliver blocks (state_of old)) new
deliver_takes old new blocks height block answer at here delivers =
    took old new 0 (to_deliver blocks (state_of old)) (Some (ToDeliver (shared delivers.shared.value)))
    (ap (option_map (λ block. ToDeliver (shared block))) (ap (slice_get blocks) (sym at) ∙ here) ∙ ap (λ block. Some (ToDeliver (shared block))) (sym delivers.same))
    (stepped old new 0 (ToDeliver delivers.shared) answer delivers.step)

pub deliver_none : (node : Core) (blocks : List Block) (height : ℕ) → height ≡ length (world_of node).sealed → slice_get blocks height ≡ None → Takes node 0 (to_deliver blocks (state_of node)) node
deliver_none node blocks height at here = stays node node 0 (to_deliver blocks (state_of node)) refl (ap (option_map (λ block. ToDeliver (shared block))) (ap (slice_get blocks) (sym at) ∙ here))

pub deliver_hands : (old new : Core) (block : Block) (answer : Answer) (hands : List (Option InHand)) → Delivers old 0 block answer new → AreInHands old hands → AreInHands new hands
deliver_hands old new block answer hands delivers are = step_hands old new 0 (ToDeliver delivers.shared) answer hands no_processor refl delivers.step are

-- ---- what an actor has in hand

pub hand_is : (node : Core) (actor : ℕ) (hands : List (Option InHand)) (hand : Option InHand) → IsActor actor → AreInHands node hands → hand ≡ hand_of hands actor → IsHand node actor hand
hand_is node actor hands hand one are is = subst (IsHand node actor) (sym is) (are.each actor one)

none_of : (hand : Option InHand) → is_some hand ≡ false → hand ≡ None
none_of None e = refl
none_of (Some work) e = absurd (false≢true (sym e))

pub idle_hand : (node : Core) (actor : ℕ) (hands : List (Option InHand)) → IsActor actor → AreInHands node hands → is_some (hand_of hands actor) ≡ false → HoldsNone (world_of node) actor
idle_hand node actor hands one are e = hand_is node actor hands None one are (sym (none_of (hand_of hands actor) e))

-- ---- claims

pub claim_may : (node : Core) (actor : ℕ) (pick : Pick) (hands : List (Option InHand)) → IsActor actor → AreInHands node hands → is_some (hand_of hands actor) ≡ false → MayAsk node actor (ToClaim pick)
claim_may node actor pick hands one are e = may_claim node actor (idle_hand node actor hands one are e) pick

pub claim_busy : (node : Core) (actor : ℕ) (pick : Pick) (hands : List (Option InHand)) → IsActor actor → AreInHands node hands → is_some (hand_of hands actor) ≡ true → Takes node actor (to_claim (state_of node) actor pick) node
claim_busy node actor pick hands one are e = by (hand_of hands actor) (are.each actor one) e
  where
    by : (hand : Option InHand) → IsHand node actor hand → is_some hand ≡ true → Takes node actor (to_claim (state_of node) actor pick) node
    by None is e = absurd (false≢true e)
    by (Some work) is e = stays node node actor (to_claim (state_of node) actor pick) refl (claim_held node actor work is pick)

pub claim_takes : (old new : Core) (actor : ℕ) (pick : Pick) (answer : Answer) (hands : List (Option InHand)) → IsActor actor → AreInHands old hands → is_some (hand_of hands actor) ≡ false → Steps old actor (ToClaim pick) answer new
    → Takes old actor (to_claim (state_of old) actor pick) new
claim_takes old new actor pick answer hands one are e step =
    took old new actor (to_claim (state_of old) actor pick) (Some (ToClaim pick)) (claim_asks old actor (idle_hand old actor hands one are e) pick) (stepped old new actor (ToClaim pick) answer step)

module _ (old new : Core) (actor : ℕ) (pick : Pick) (hands : List (Option InHand)) (one : IsActor actor) (are : AreInHands old hands) (e : is_some (hand_of hands actor) ≡ false) where
  none : HoldsNone (world_of old) actor
  none = idle_hand old actor hands one are e

  may : MayAsk old actor (ToClaim pick)
  may = may_claim old actor none pick

  pub claim_none_hands : Steps old actor (ToClaim pick) NoJob new → AreInHands new hands
  claim_none_hands step =
      own_idle old new actor hands (but_idle old hands actor are (none_of (hand_of hands actor) e)) (legal_new old actor (ToClaim pick) are.legal may new NoJob step)
      (keeps old actor (ToClaim pick) are.legal may new NoJob step) (claims_none old new actor pick are.legal may none step)

  pub claim_hands : (work : InHand) (hands' : List (Option InHand)) → Steps old actor (ToClaim pick) (Claimed work.job) new → IsHeld new work → IsClaimed actor work → IsPut hands actor (Some work) hands' → AreInHands new hands'
  claim_hands work hands' step held fresh put =
      own old new actor (Some work) hands hands' (but_idle old hands actor are (none_of (hand_of hands actor) e)) (legal_new old actor (ToClaim pick) are.legal may new (Claimed work.job) step)
      (keeps old actor (ToClaim pick) are.legal may new (Claimed work.job) step) put (claims_work old new actor pick are.legal may none work step held fresh)

-- ---- a job that is out of its actor's hand

-- a job that has run on is the same for its node
pub ran_on : (node : Core) (actor : ℕ) (old new : InHand) → IsSameRun old new → IsWorkOf node actor old → IsWorkOf node actor new
ran_on node actor old new same is = subst (IsWorkOf node actor) (sym same) (record {
  same = is.same;
  held = record { app = is.held.app; holds = is.held.holds; time = is.held.time };
  only = is.only;
  gone = λ e. record { settled = (is.gone e).settled; may = (is.gone e).may };
})

-- it goes back into the hand
pub back : (node : Core) (actor : ℕ) (work : InHand) (hands hands' : List (Option InHand)) → AreInHandsBut node actor hands → IsWorkOf node actor work → IsPut hands actor (Some work) hands' → AreInHands node hands'
back node actor work hands hands' are is put = own node node actor (Some work) hands hands' are are.legal (keeps_same node actor) put is

-- what holds of an answer that is there
pub of_answer : {X E : Type 0} (P : X → Type 0) (r : Result X E) → is_err r ≡ false → IfOk r P → (x : X) × P x
of_answer P (Ok x) e holds = (x, holds)
of_answer P (Err refused) e holds = absurd (false≢true (sym e))

module _ (old : Core) (actor : ℕ) (work : InHand) (is : IsWorkOf old actor work) (legal : IsLegal old.app old.journal) where
  -- what is asked of its actor is asked of the one that it names
  of_work : (new : Core) (asked : Option Ask) → Takes old work.actor asked new → Takes old actor asked new
  of_work new asked = subst (λ n. Takes old n asked new) is.same

  own_work : IsWorkOf old work.actor work
  own_work = subst (λ n. IsWorkOf old n work) (sym is.same) is

  -- read
  pub read_stays : (answer : Next) → (answer ≡ next.Wants → ⊥) → Says answer work → GoesOn answer work → Takes old actor (to_read old.app (state_of old) actor) old
  read_stays next.Wants other says goes = absurd (other refl)
  read_stays next.Ready other says goes = stays old old actor (to_read old.app (state_of old) actor) refl (read_over old actor work is (goes old legal is.held))
  read_stays next.Gone other says goes = read_gone old actor work is (is.gone says)

  module _ (new : Core) (work' : InHand) (g : Got) (goes : GoesOn next.Wants work) (step : Steps old work.actor (ToRead work.job) (got_as g) new) where
    pub read_takes : Takes old actor (to_read old.app (state_of old) actor) new
    read_takes = took old new actor (to_read old.app (state_of old) actor) (Some (ToRead work.job)) (read_asks old actor work is (goes old legal is.held))
        (of_work new (Some (ToRead work.job)) (stepped old new work.actor (ToRead work.job) (got_as g) step))

    pub read_hands : (hands hands' : List (Option InHand)) → AreInHandsBut old actor hands → IsHeld new work' → IsAnswered g work work' → IsPut hands actor (Some work') hands' → AreInHands new hands'
    read_hands hands hands' are held answered put =
        own old new actor (Some work') hands hands' are (legal_new old work.actor (ToRead work.job) legal (goes old legal is.held) new (got_as g) step)
        (subst (λ n. KeepsOthers old n new) is.same (keeps old work.actor (ToRead work.job) legal (goes old legal is.held) new (got_as g) step)) put
        (subst (λ n. IsWorkOf new n work') is.same (reads_work old new work work' g legal own_work (goes old legal is.held) step held answered))

  -- finish
  pub finish_stays : (answer : Next) → (answer ≡ next.Ready → ⊥) → Says answer work → GoesOn answer work → Takes old actor (to_finish old.app (state_of old) actor) old
  finish_stays next.Wants other says goes = stays old old actor (to_finish old.app (state_of old) actor) refl (finish_goes old actor work is (goes old legal is.held))
  finish_stays next.Ready other says goes = absurd (other refl)
  finish_stays next.Gone other says goes = stays old old actor (to_finish old.app (state_of old) actor) refl (finish_goes old actor work is (is.gone says).may)

  module _ (new : Core) (answer : Answer) (goes : GoesOn next.Ready work) (step : Steps old work.actor (ToFinish work.job) answer new) where
    pub finish_takes : Takes old actor (to_finish old.app (state_of old) actor) new
    finish_takes = took old new actor (to_finish old.app (state_of old) actor) (Some (ToFinish work.job)) (finish_asks old actor work is (goes old legal is.held))
        (of_work new (Some (ToFinish work.job)) (stepped old new work.actor (ToFinish work.job) answer step))

    pub finish_hands : (hands : List (Option InHand)) → AreInHandsBut old actor hands → AreInHands new hands
    finish_hands hands are =
        own_idle old new actor hands are (legal_new old work.actor (ToFinish work.job) legal (goes old legal is.held) new answer step)
        (subst (λ n. KeepsOthers old n new) is.same (keeps old work.actor (ToFinish work.job) legal (goes old legal is.held) new answer step))
        (subst (HoldsNone (world_of new)) is.same (finishes_work old new work answer legal own_work (goes old legal is.held) step))

  -- release
  module _ (new : Core) (answer : Answer) (step : Steps old work.actor (ToRelease work.job) answer new) where
    pub release_takes : Takes old actor (to_release (state_of old) actor) new
    release_takes = took old new actor (to_release (state_of old) actor) (Some (ToRelease work.job)) (release_asks old actor work is)
        (of_work new (Some (ToRelease work.job)) (stepped old new work.actor (ToRelease work.job) answer step))

    pub release_hands : (hands : List (Option InHand)) → AreInHandsBut old actor hands → AreInHands new hands
    release_hands hands are =
        own_idle old new actor hands are (legal_new old work.actor (ToRelease work.job) legal (may_release old actor work is) new answer step)
        (subst (λ n. KeepsOthers old n new) is.same (keeps old work.actor (ToRelease work.job) legal (may_release old actor work is) new answer step))
        (subst (HoldsNone (world_of new)) is.same (releases_work old new work answer legal own_work (may_release old actor work is) step))
