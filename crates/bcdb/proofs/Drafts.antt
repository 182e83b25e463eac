-- What an order answers, by what its clients submit.
use Rattle.std.proofs.Common.{IfOk, IfSome, List, None, Option, Some, [], ap, arith, cond, false, length, refl, subst, sym, true, ◌<◌, ◌∙◌, ◌≡◌, ◌≤◌, ℕ}
use Rattle.std.proofs.lemmas.Bool.{le-leb, lt-leb}
use Rattle.std.specs.Int.{div_ceil}
use Rattle.std.specs.List.{sum_by}
use Rattle.std.specs.Prelude.{Err, Ok, Result}
use Rattle.bcdb.proofs.Clustered.{alone}
use Rattle.bcdb.specs.ArrivalFiles.{all_arrived}
use Rattle.bcdb.specs.OrderAnswer.{DraftIf, blocks_needed, is_few}
use Rattle.bcdb.specs.ProgramAnswer.{says}
use Rattle.bcdb.specs.Refusals.{arrivals_refusal, order_refusal}
use Rattle.bcdb.specs.Reply.{Means}
use Rattle.bcdb.specs.Traced.{RepliesOrder, followed_by}
use Rattle.bcdb.specs.declared.refusal.BadArrivals.{BadArrivals}
use Rattle.bcdb.specs.declared.reply.Reply.{Reply}
use Rattle.bcdb.specs.declared.status.Status.TheVariants.{ArrivalRefused, Done, OrderRefused}
use Rattle.edge_traits.specs.Shelf.{Files}
use Rattle.order_queue.specs.Orders.{IsOrdered}
use Rattle.proc_syntax.specs.declared.call.Tx.{Tx}
use Rattle.rel_base.specs.declared.memory.NoMemory.{NoMemory}

-- how many blocks they need, by the total of their transactions
needed_is : (clients submitted : List (List Tx)) (most total needed : ℕ) → submitted ≡ clients → total ≡ sum_by length submitted → needed ≡ div_ceil total most → needed ≡ blocks_needed clients most
needed_is clients submitted most total needed same sum is =
    is ∙ ap (λ n. div_ceil n most) sum ∙ ap (λ (lists : List (List Tx)). blocks_needed lists most) same

-- the draft is what follows, where the blocks are few enough
pub replies_draft : (clients submitted : List (List Tx)) (most total needed : ℕ) (bytes : List ℕ) → submitted ≡ clients → total ≡ sum_by length submitted → needed ≡ div_ceil total most
    → needed ≤ 1000000 → IsOrdered clients most bytes → RepliesOrder most (Ok clients) (record { status = Done; bytes = bytes })
replies_draft clients submitted most total needed bytes same sum number few ordered =
    let is : is_few clients most ≡ true = le-leb (blocks_needed clients most) 1000000 (subst (λ n. n ≤ 1000000) (needed_is clients submitted most total needed same sum number) few) in (
      bytes,
      (
        subst (λ b. DraftIf b clients most bytes) (sym is) ordered,
        subst (λ b. Means (followed_by bytes (cond b (says Done []) (says OrderRefused (order_refusal (blocks_needed clients most))))) (record { status = Done; bytes = bytes })) (sym is)
            (record { status = refl; bytes = refl }),
      ),
    )

-- and nothing follows a refusal
replies_many : (clients : List (List Tx)) (most : ℕ) (reply : Reply) → 1000000 < blocks_needed clients most → Means (says OrderRefused (order_refusal (blocks_needed clients most))) reply
    → RepliesOrder most (Ok clients) reply
replies_many clients most reply many means =
    let is : is_few clients most ≡ false = lt-leb (blocks_needed clients most) 1000000 many in (
      [],
      (
        subst (λ b. DraftIf b clients most []) (sym is) refl,
        subst (λ b. Means (followed_by [] (cond b (says Done []) (says OrderRefused (order_refusal (blocks_needed clients most))))) reply) (sym is)
            (alone (says OrderRefused (order_refusal (blocks_needed clients most))) reply means),
      ),
    )

pub replies_refused : (clients submitted : List (List Tx)) (most total needed : ℕ) (result : Result Reply NoMemory) → submitted ≡ clients → total ≡ sum_by length submitted → needed ≡ div_ceil total most
    → 1000000 < needed → IfOk result (λ reply. Means (says OrderRefused (order_refusal needed)) reply) → IfOk result (RepliesOrder most (Ok clients))
replies_refused clients submitted most total needed (Ok reply) same sum number many means =
    let is = needed_is clients submitted most total needed same sum number in
    replies_many clients most reply (subst (λ n. 1000000 < n) is many) (subst (λ n. Means (says OrderRefused (order_refusal n)) reply) is means)
replies_refused clients submitted most total needed (Err e) same sum number many means = tt

pub replies_bad : (most : ℕ) (bad : BadArrivals) (result : Result Reply NoMemory) → IfOk result (λ reply. Means (says ArrivalRefused (arrivals_refusal bad)) reply)
    → IfOk result (RepliesOrder most (Err bad))
replies_bad most bad (Ok reply) means = ([], (refl, alone (says ArrivalRefused (arrivals_refusal bad)) reply means))
replies_bad most bad (Err e) means = tt

-- as many clients as there are files
pub few_clients : (count : ℕ) (read : Result (List (List Tx)) BadArrivals) → (1 ≤ count) × (count ≤ 8) → IfOk read (λ clients. length clients ≡ count)
    → IfOk read (λ clients. (1 ≤ length clients) × (length clients ≤ 8))
few_clients count (Ok clients) few all = (omega (arith, few.0, all), omega (arith, few.1, all))
few_clients count (Err bad) few all = tt

-- over a shelf that tells its files
pub replies_told : (told : Option Files) (prefix : Option (List ℕ)) (count most : ℕ) (read : Result (List (List Tx)) BadArrivals) (reply : Reply)
    → IfSome told (λ files. all_arrived prefix 1 count files ≡ read) → RepliesOrder most read reply → IfSome told (λ files. RepliesOrder most (all_arrived prefix 1 count files) reply)
replies_told None prefix count most read reply is replies = tt
replies_told (Some files) prefix count most read reply is replies =
    subst (λ (found : Result (List (List Tx)) BadArrivals). RepliesOrder most found reply) (sym is) replies
