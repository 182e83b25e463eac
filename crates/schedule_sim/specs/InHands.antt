-- What the actors of a schedule hold between two lines.
use Rattle.node_core.specs.Core.{Core, IsHeld, MayAsk, world_of}
use Rattle.node_core.specs.InHand.{InHand}
use Rattle.node_model.specs.Events.{is_settled}
use Rattle.node_model.specs.Journals.{IsLegal}
use Rattle.node_model.specs.Steps.{ToRead}
use Rattle.node_model.specs.World.{Holds, HoldsNone, Job}
use Rattle.schedule_sim.specs.Steps.{IsActor}
use Rattle.std.specs.Option.{option_and_then}
use Rattle.std.specs.Prelude.{List, None, Option, Some, length, slice_get, true, ◌≡◌, ℕ}

-- the job in the hand of an actor, by its number
abbrev pub hand_of : List (Option InHand) → ℕ → Option InHand
hand_of hands actor = option_and_then (λ hand. hand) (slice_get hands actor)

-- the last read of a job found its id settled: it wants that read still, and would get that answer again
pub record WasGone (node : Core) (work : InHand) : Type 0 where
  pub settled : is_settled work.told.tx.id (world_of node).sealed ≡ true
  pub may : MayAsk node work.actor (ToRead work.job)

-- the job is held by the actor, which holds no other job
pub record IsWorkOf (node : Core) (actor : ℕ) (work : InHand) : Type 0 where
  pub same : work.actor ≡ actor
  pub held : IsHeld node work
  pub only : (number : ℕ) (job : Job) → Holds (world_of node).jobs actor number job → number ≡ work.job
  pub gone : work.gone ≡ true → WasGone node work

-- what an actor has in hand is what it holds
abbrev pub IsHand : Core → ℕ → Option InHand → Type 0
IsHand node actor None = HoldsNone (world_of node) actor
IsHand node actor (Some work) = IsWorkOf node actor work

-- ---- hands

-- nothing is in any hand
pub record AreEmpty (hands : List (Option InHand)) : Type 0 where
  pub count : length hands ≡ 17
  pub each : (actor : ℕ) → hand_of hands actor ≡ None

-- one hand was filled or emptied
pub record IsPut (old : List (Option InHand)) (actor : ℕ) (hand : Option InHand) (new : List (Option InHand)) : Type 0 where
  pub count : length new ≡ length old
  pub now : hand_of new actor ≡ hand
  pub rest : (other : ℕ) → (other ≡ actor → ⊥) → hand_of new other ≡ hand_of old other

-- the hands of the actors 1 to 16
pub record AreInHands (node : Core) (hands : List (Option InHand)) : Type 0 where
  pub legal : IsLegal node.app node.journal
  pub count : length hands ≡ 17
  pub each : (actor : ℕ) → IsActor actor → IsHand node actor (hand_of hands actor)

-- all but that of one, which is empty for now
pub record AreInHandsBut (node : Core) (one : ℕ) (hands : List (Option InHand)) : Type 0 where
  pub legal : IsLegal node.app node.journal
  pub count : length hands ≡ 17
  pub none : hand_of hands one ≡ None
  pub each : (actor : ℕ) → IsActor actor → (actor ≡ one → ⊥) → IsHand node actor (hand_of hands actor)
