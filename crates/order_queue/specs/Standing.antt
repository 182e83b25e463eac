-- Where the passes stand between two calls, and what the caller has noted of the tickets that it took.
use Rattle.std.specs.Prelude.{◌≡◌, ℕ, Bool, true, false, List, [], ◌∷◌, Option, Some, None}
use Rattle.std.specs.List.{flat_map}
use Rattle.crossbeam_queue.specs.declared.array_queue.Doing.{Doing}
use Rattle.crossbeam_queue.specs.declared.array_queue.Slotted.{Slotted}
use Rattle.crossbeam_queue.specs.Passes.{Pass, IsPassOf, view}
use Rattle.order_queue.specs.declared.caller.Caller.{Caller}
use Rattle.order_queue.specs.declared.ticket.Ticket.{Ticket}
use Rattle.order_queue.specs.declared.ticket.PassView.{PassView}
use Rattle.order_queue.specs.declared.ticket.Known.{Known}
use Rattle.order_queue.specs.Rule.{AllPut}

-- a client's pass: for how many transactions it has put tickets, and whether it has ended
pub record IsClient (v : PassView) (client put : ℕ) (ended : Bool) : Type 0 where
  pub sends : v.sends ≡ true
  pub from : v.from ≡ client
  pub puts : v.put ≡ put
  pub ended_is : v.ended ≡ ended

-- the client of a ticket, where the ticket is for a transaction
abbrev pub named_by : Option ℕ → ℕ → List ℕ
named_by None client = []
named_by (Some index) client = client ∷ []

-- what the caller notes of a ticket: the client where it is for a transaction, and nothing of an end
abbrev pub named : Ticket → List ℕ
named t = named_by t.index t.client

-- the caller's pass: unless something was lost, what was noted is of the tickets that it took
pub record IsCaller (v : PassView) (from : List ℕ) (lost : Bool) : Type 0 where
  pub gets : v.gets ≡ true
  pub got : lost ≡ false → from ≡ flat_map named v.got

-- what was noted is of a story that has all that the clients have put whose passes came back
pub record AllFrom (from : List ℕ) (made : ℕ) (known : List Known) : Type 0 where
  pub story : List Ticket
  pub noted : from ≡ flat_map named story
  pub all : AllPut story made known

-- the caller knows no more of its clients than before
abbrev pub KnowsNoMore : Caller → Caller → Type 0
KnowsNoMore old new = ((view new.pass).known ≡ (view old.pass).known) × ((view new.pass).made ≡ (view old.pass).made)

-- unless something was lost, the caller has noted all that these clients have put, and nothing else
abbrev pub HasAll : Caller → ℕ → List Known → Type 0
HasAll caller made known = caller.lost ≡ false → AllFrom caller.from.items made known

module _ {Q A : Type 0} where
  -- it is the client's pass of this queue
  abbrev pub IsClientOf : Slotted (Option Ticket) (Doing Ticket PassView) Q A → Pass Ticket PassView → (client put : ℕ) → Bool → Type 0
  IsClientOf queue pass client put ended = IsPassOf queue pass × IsClient (view pass) client put ended

  -- it has the caller's pass of this queue
  abbrev pub IsCallerOf : Slotted (Option Ticket) (Doing Ticket PassView) Q A → Caller → Type 0
  IsCallerOf queue caller = IsPassOf queue caller.pass × IsCaller (view caller.pass) caller.from.items caller.lost
