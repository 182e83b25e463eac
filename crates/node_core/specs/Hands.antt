-- What is answered of a held job.
use Rattle.node_core.specs.Core.{Core, IsHeld, MayAsk}
use Rattle.node_core.specs.InHand.{InHand, IsReady, WantsRead}
use Rattle.node_core.specs.declared.answers.Next.TheVariants as next
use Rattle.node_core.specs.declared.answers.Next.{Next}
use Rattle.node_core.specs.Answers.{is_gone}
use Rattle.node_core.specs.declared.answers.Got.{Got}
use Rattle.node_model.specs.Journals.{IsLegal}
use Rattle.node_model.specs.Steps.{ToFinish, ToRead}
use Rattle.std.specs.Prelude.{None, [], cond, false, length, true, ◌+◌, ◌≡◌, ℕ}

-- it is as far as an answer says
abbrev pub Says : Next → InHand → Type 0
Says next.Wants work = WantsRead work
Says next.Ready work = IsReady work
Says next.Gone work = work.gone ≡ true

-- what its actor may ask, by that answer: its next read, or its end
abbrev pub MayGoOn : Core → Next → InHand → Type 0
MayGoOn core next.Wants work = MayAsk core work.actor (ToRead work.job)
MayGoOn core next.Ready work = MayAsk core work.actor (ToFinish work.job)
MayGoOn core next.Gone work = Unit {0}

-- in every state of a node in which the job is held
abbrev pub GoesOn : Next → InHand → Type 0
GoesOn next work = (core : Core) → IsLegal core.app core.journal → IsHeld core work → MayGoOn core next work

-- a read was answered: the job has the mark exactly where the id is settled, and else it asks no more and has one read more
pub record IsAnswered (got : Got) (old new : InHand) : Type 0 where
  pub job : new.job ≡ old.job
  pub actor : new.actor ≡ old.actor
  pub gone : new.gone ≡ is_gone got
  pub asks : new.told.asks ≡ cond (is_gone got) old.told.asks None
  pub reads : length new.told.fed ≡ cond (is_gone got) (length old.told.fed) (length old.told.fed + 1)

-- a job as an actor takes it
pub record IsClaimed (actor : ℕ) (work : InHand) : Type 0 where
  pub actor_is : work.actor ≡ actor
  pub not_gone : work.gone ≡ false
  pub none_read : work.told.fed ≡ []
  pub asks_none : work.told.asks ≡ None
  pub goes_on : work.told.ended ≡ false
