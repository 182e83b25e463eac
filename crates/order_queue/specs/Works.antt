-- How far the clients' work is.
use Rattle.std.specs.Prelude.{◌≡◌, ℕ, zero, suc, ◌+◌, ◌<◌, true, List, [], ◌∷◌, get_or, length, slice_index}
use Rattle.atomic_table.specs.Seated.{TableId}
use Rattle.crossbeam_queue.specs.Passes.{view}
use Rattle.order_queue.specs.declared.ticket.Known.{Known}
use Rattle.order_queue.specs.declared.work.ClientWork.{ClientWork}
use Rattle.order_queue.specs.declared.work.ClientWork.TheVariants.{Running, Ended}
use Rattle.order_queue.specs.Standing.{IsClient}

-- what is known where the passes of the first so many clients came back, the last first: each has put all of its tickets, and its end
abbrev pub known_of : List ℕ → ℕ → List Known
known_of counts zero = []
known_of counts (suc k) = record { client = k + 1; put = slice_index counts k; ended = true } ∷ known_of counts k

-- a work on the queue z is that of the client k, with n transactions
abbrev pub WorksFor : TableId → ℕ → ℕ → ClientWork → Type 0
WorksFor z k n (Running h) = (h.promise.queue.value.table.shared.table_id ≡ z) × (h.promise.client ≡ k) × (h.promise.count ≡ n)
WorksFor z k n (Ended p) = (p.table_id ≡ z) × (p.me.1 ≡ []) × IsClient (view p) k n true

-- works on the queue z, one for each of the first clients, in their order
abbrev pub AreWorks : TableId → List ℕ → List ClientWork → Type 0
AreWorks z counts works = (k : ℕ) (d : ClientWork) → k < length works → WorksFor z (k + 1) (slice_index counts k) (get_or works k d)
