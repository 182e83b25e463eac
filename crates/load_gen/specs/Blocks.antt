-- The blocks of the load of a number, and what arrives at its nodes.
use Rattle.load_gen.specs.Transactions.{load_tx, opening_tx}
use Rattle.proc_syntax.specs.declared.call.Block.{Block}
use Rattle.proc_syntax.specs.declared.call.Tx.{Tx}
use Rattle.std.proofs.Common.{subst, sym}
use Rattle.std.proofs.lemmas.Bool.{leb-true}
use Rattle.std.proofs.lemmas.List.FromFn.{length-map-range_with_len}
use Rattle.std.specs.List.{filter, range_with_len}
use Rattle.std.specs.Prelude.{Bool, List, [], length, map, nat_le, not, pos, refl, true, ◌%◌, ◌*◌, ◌+◌, ◌-◌, ◌==◌, ◌≡◌, ◌≤◌, ◌∷◌, ℕ}
use Rattle.proc_syntax.specs.Limits.{most_transactions}

-- so many transactions, from that of a number on
unfoldable pub txs_from : (ℕ → Tx) → ℕ → ℕ → List Tx
txs_from tx first count = map tx (range_with_len first count)

-- they fit into a block
pub few_txs : (tx : ℕ → Tx) (first count : ℕ) → nat_le count most_transactions ≡ true → length (txs_from tx first count) ≤ most_transactions
unfolding txs_from
few_txs tx first count few = subst (λ n. n ≤ most_transactions) (sym (length-map-range_with_len tx first count)) (leb-true count most_transactions few)

-- a block of so many transactions, of time 0
abbrev pub block_of : ℕ → (ℕ → Tx) → ℕ → (count : ℕ) → nat_le count most_transactions ≡ true → Block
block_of number tx first count few = record { number = number; time = pos 0; txs = txs_from tx first count; few = few_txs tx first count few; not_negative = refl }

-- block 1 has the 64 transactions that open accounts
abbrev pub first_block : Block
first_block = block_of 1 opening_tx 1 64 refl

-- the number of the first transaction of a block from the second on
abbrev pub first_of : ℕ → ℕ
first_of block = 50 * (block - 2) + 65

-- each block from the second on has 50 drawn transactions
abbrev pub later_block : ℕ → ℕ → Block
later_block number block = block_of block (load_tx number) (first_of block) 50 refl

-- blocks 1 to 41
unfoldable pub load_blocks : ℕ → List Block
load_blocks number = first_block ∷ map (later_block number) (range_with_len 2 40)

-- ---- arrivals

-- of each three transactions one after another, two go to a node
abbrev pub goes_to : ℕ → ℕ → Bool
goes_to node n = not ((n + node) % 3 == 0)

-- those that go to a node, of so many drawn ones from the first on, in order
unfoldable pub arrivals_among : ℕ → ℕ → ℕ → List Tx
arrivals_among number node count = map (load_tx number) (filter (goes_to node) (range_with_len 65 count))

-- those of nodes 1 to 3, of all 2,000
abbrev pub load_arrivals : ℕ → List (List Tx)
load_arrivals number = arrivals_among number 1 2000 ∷ arrivals_among number 2 2000 ∷ arrivals_among number 3 2000 ∷ []
