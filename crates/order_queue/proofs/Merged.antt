-- What holds of all items of the lists holds of all items of their merge, and of each block's.
use Rattle.std.proofs.Common.{◌≡◌, ℕ, zero, suc, ◌==◌, ◌+◌, ◌-◌, ◌<◌, ◌≤◌, Bool, true, false, cond, List, [], ◌∷◌, ◌++◌, All, length, slice_index_or, subst, sym, arith, eq-eqb}
use Rattle.std.specs.List.{AllByRecursion}
use Rattle.proc_syntax.specs.declared.call.Block.{Block}
use Rattle.proc_syntax.specs.declared.call.Tx.{Tx}
use Rattle.order_queue.specs.Blocks.{joined}
use Rattle.order_queue.specs.Merge.{of_client, IsMerge}
use Rattle.order_queue.specs.Orders.{IsSubmission}
use Rattle.tx_text.specs.Lines.{HasLine}

module _ {Item : Type 0} (P : Item → Type 0) where
  all_after : (own : Bool) (x : Item) (xs : List Item) → AllByRecursion P (cond own (x ∷ xs) xs) → AllByRecursion P xs
  all_after true x xs h = h.1
  all_after false x xs h = h

  all_over : (n : ℕ) (from : List ℕ) (items : List Item) → length from ≡ length items → All (λ client. (1 ≤ client) × (client ≤ n)) from
      → ((k : ℕ) → k < n → AllByRecursion P (of_client (k + 1) from items)) → AllByRecursion P items
  all_over n from [] same within each = tt
  all_over n [] (x ∷ xs) same within each = absurd (omega arith)
  all_over n (c ∷ cs) (x ∷ xs) same within each =
      let here : (1 ≤ c) × (c ≤ n) = within zero c (omega arith) in
      let is : c ≡ c - 1 + 1 = omega arith in
      let own : AllByRecursion P (cond (c == c - 1 + 1) (x ∷ of_client (c - 1 + 1) cs xs) (of_client (c - 1 + 1) cs xs)) = each (c - 1) (omega arith) in
      let first : AllByRecursion P (x ∷ of_client (c - 1 + 1) cs xs) = subst (λ b. AllByRecursion P (cond b (x ∷ of_client (c - 1 + 1) cs xs) (of_client (c - 1 + 1) cs xs))) (eq-eqb c (c - 1 + 1) is) own in
      (first.0, all_over n cs xs (omega arith) (λ k d below. within (suc k) d (omega arith)) (λ k below. all_after (c == k + 1) x (of_client (k + 1) cs xs) (each k below)))

  pub all_merged : (lists : List (List Item)) (from : List ℕ) (items : List Item) → IsMerge lists from items → ((k : ℕ) → k < length lists → AllByRecursion P (slice_index_or lists k [])) → AllByRecursion P items
  all_merged lists from items m all = all_over (length lists) from items m.equally_long m.clients (λ k below. subst (AllByRecursion P) (sym (m.each k below)) (all k below))

  all_front : (xs ys : List Item) → AllByRecursion P (xs ++ ys) → AllByRecursion P xs
  all_front [] ys h = tt
  all_front (x ∷ xs) ys h = (h.0, all_front xs ys h.1)

  all_behind : (xs ys : List Item) → AllByRecursion P (xs ++ ys) → AllByRecursion P ys
  all_behind [] ys h = h
  all_behind (x ∷ xs) ys h = all_behind xs ys h.1

pub all_blocks : (P : Tx → Type 0) (blocks : List Block) → AllByRecursion P (joined blocks) → AllByRecursion (λ block. AllByRecursion P block.txs) blocks
all_blocks P [] h = tt
all_blocks P (block ∷ blocks) h = (all_front P block.txs (joined blocks) h, all_blocks P blocks (all_behind P block.txs (joined blocks) h))

-- where all clients may submit what they have, each transaction of the blocks has a line
pub lines_merged : (clients : List (List Tx)) (from : List ℕ) (blocks : List Block) → All IsSubmission clients → IsMerge clients from (joined blocks) → AllByRecursion (λ block. AllByRecursion HasLine block.txs) blocks
lines_merged clients from blocks all merge = all_blocks HasLine blocks (all_merged HasLine clients from (joined blocks) merge (λ k below. (all k [] below).lines))

pub few_submitted : (clients : List (List Tx)) → All IsSubmission clients → All (λ txs. length txs ≤ 1000000) clients
few_submitted clients all k d below = (all k d below).few
