-- What an order answers: a draft in which what the clients submit is merged. Which client comes first is left to their threads.
use Rattle.std.specs.Prelude.{Bool, Err, List, Ok, Result, [], cond, false, length, nat_le, true, ◌≡◌, ◌≤◌, ℕ}
use Rattle.std.specs.Int.{div_ceil}
use Rattle.std.specs.List.{sum_by}
use Rattle.bcdb.specs.ProgramAnswer.{ProgramAnswer, says}
use Rattle.bcdb.specs.Refusals.{arrivals_refusal, order_refusal}
use Rattle.bcdb.specs.declared.refusal.BadArrivals.{BadArrivals}
use Rattle.bcdb.specs.declared.status.Status.TheVariants.{ArrivalRefused, Done, OrderRefused}
use Rattle.order_queue.specs.Orders.{IsOrdered}
use Rattle.proc_syntax.specs.declared.call.Tx.{Tx}
use Rattle.proc_syntax.specs.Limits.{most_blocks}

-- how many blocks of `most` transactions the clients need
abbrev pub blocks_needed : List (List Tx) → (most : ℕ) → ℕ
blocks_needed clients most = div_ceil (sum_by length clients) most

abbrev pub is_few : List (List Tx) → (most : ℕ) → Bool
is_few clients most = nat_le (blocks_needed clients most) most_blocks

-- the client files decide, and then how many blocks are needed; what is written where nothing is refused, the next definition says
abbrev pub over_order : (most : ℕ) → Result (List (List Tx)) BadArrivals → ProgramAnswer
over_order most (Err bad) = says ArrivalRefused (arrivals_refusal bad)
over_order most (Ok clients) = cond (is_few clients most) (says Done []) (says OrderRefused (order_refusal (blocks_needed clients most)))

abbrev pub DraftIf : (few : Bool) → List (List Tx) → (most : ℕ) → List ℕ → Type 0
DraftIf true clients most draft = IsOrdered clients most draft
DraftIf false clients most draft = draft ≡ []

-- the draft of all clients; none where a client file or the number of blocks is refused
abbrev pub FollowsOrder : (most : ℕ) → Result (List (List Tx)) BadArrivals → List ℕ → Type 0
FollowsOrder most (Err bad) draft = draft ≡ []
FollowsOrder most (Ok clients) draft = DraftIf (is_few clients most) clients most draft

-- nothing is refused
abbrev pub IsFew : (most : ℕ) → Result (List (List Tx)) BadArrivals → Type 0
IsFew most (Err bad) = ⊥
IsFew most (Ok clients) = blocks_needed clients most ≤ most_blocks
