-- The rule of the queue. There is one story, the tickets that were put, in the order of the puts: what was taken, and then what the queue
-- holds. The caller's pass knows what was taken, which is the start of the story, and a client's pass all tickets of the client in it.
-- A client's number is that of its pass; the caller's pass has number 0.
use Rattle.std.specs.Prelude.{◌≡◌, ◌⊎◌, ℕ, zero, suc, ◌+◌, ◌<◌, ◌≤◌, Bool, true, false, List, [], ◌∷◌, ◌++◌, length, Some, None}
use mathlib.Core.Option.{some}
use lib.ListN.{get_elem?}
use Rattle.rel_base.specs.Stories.{entries_of}
use Rattle.order_queue.specs.declared.ticket.Ticket.{Ticket}
use Rattle.order_queue.specs.declared.ticket.PassView.{PassView}
use Rattle.order_queue.specs.declared.ticket.Known.{Known}

abbrev pub client_of : Ticket → ℕ
client_of t = t.client

-- the ticket for a client's transaction
abbrev pub ticket_at : ℕ → ℕ → Ticket
ticket_at k n = record { client = k; index = Some n }

-- the ticket of its end
abbrev pub end_of : ℕ → Ticket
end_of k = record { client = k; index = None }

-- the tickets for a client's first n transactions
abbrev pub puts : ℕ → ℕ → List Ticket
puts k zero = []
puts k (suc n) = puts k n ++ ticket_at k n ∷ []

-- all that a client has put: those, and that of its end where it has ended
abbrev pub sent : ℕ → ℕ → Bool → List Ticket
sent k n false = puts k n
sent k n true = puts k n ++ end_of k ∷ []

-- the tickets of one client
abbrev pub tickets_of : ℕ → List Ticket → List Ticket
tickets_of k ts = entries_of client_of k ts

-- no ticket is of a client that is not among the first n
abbrev pub NoOther : ℕ → List Ticket → Type 0
NoOther n story = (k : ℕ) → (k ≡ 0) ⊎ (n < k) → tickets_of k story ≡ []

-- the pass of this number puts no more
abbrev pub Closed : List PassView → ℕ → Type 0
Closed views k = (u : PassView) → get_elem? views k ≡ some u → u.sends ≡ false

-- of each client whose pass came back the story has what that pass had put, and no pass can add to it
abbrev pub KnownOk : List PassView → List Ticket → List Known → Type 0
KnownOk views story [] = Unit {0}
KnownOk views story (x ∷ xs) = (x.client < length views) × Closed views x.client × (tickets_of x.client story ≡ sent x.client x.put x.ended) × KnownOk views story xs

-- of each client whose pass came back the story has what that pass had put
abbrev pub AllKnown : List Ticket → List Known → Type 0
AllKnown story [] = Unit {0}
AllKnown story (x ∷ xs) = (tickets_of x.client story ≡ sent x.client x.put x.ended) × AllKnown story xs

-- the same, and of no other client than the first so many there is a ticket
pub record AllPut (story : List Ticket) (made : ℕ) (known : List Known) : Type 0 where
  pub all : AllKnown story known
  pub no_other : NoOther made story

-- what the pass of number i knows
pub record Fits (got items : List Ticket) (views : List PassView) (i : ℕ) (v : PassView) : Type 0 where
  pub gets : v.gets ≡ true → (i ≡ 0) × (v.sends ≡ false) × (v.got ≡ got) × (length views ≡ v.made + 1) × KnownOk views (got ++ items) v.known
  pub sends : v.sends ≡ true → (v.gets ≡ false) × (i ≡ v.from) × (tickets_of i (got ++ items) ≡ sent i v.put v.ended) × (0 < i)

-- each pass knows its part, and no ticket is of another client than those that have a pass
pub record QueueRule (items : List Ticket) (views : List PassView) : Type 0 where
  pub got : List Ticket
  pub each : (i : ℕ) (v : PassView) → get_elem? views i ≡ some v → Fits got items views i v
  pub no_other : (k : ℕ) → (k ≡ 0) ⊎ (length views ≤ k) → tickets_of k (got ++ items) ≡ []

-- how many tickets the queue holds at most
abbrev pub most_held : ℕ
most_held = 64

-- the caller's pass, at first
abbrev pub first_view : PassView
first_view = record { gets = true; sends = false; from = 0; put = 0; ended = false; got = []; made = 0; known = [] }

-- what a pass knows after a put of a ticket for a transaction
abbrev pub put_view : PassView → PassView
put_view v = record v { put = v.put + 1 }

-- after a put of its end
abbrev pub ended_view : PassView → PassView
ended_view v = record v { ended = true }

-- after a take
abbrev pub took_view : Ticket → PassView → PassView
took_view x v = record v { got = v.got ++ x ∷ [] }

-- after a pass was split off
abbrev pub more_view : PassView → PassView
more_view v = record v { made = v.made + 1 }

-- and that pass, a client's
abbrev pub client_view : PassView → PassView
client_view v = record { gets = false; sends = true; from = v.made + 1; put = 0; ended = false; got = []; made = 0; known = [] }

-- after a pass came back
abbrev pub knowing_view : PassView → PassView → PassView
knowing_view v w = record v { known = record { client = w.from; put = w.put; ended = w.ended } ∷ v.known }

-- and what is left of that one
abbrev pub spent_view : PassView
spent_view = record { gets = false; sends = false; from = 0; put = 0; ended = false; got = []; made = 0; known = [] }
