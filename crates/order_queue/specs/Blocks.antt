-- Blocks of transactions that came one after another.
use Rattle.std.specs.Prelude.{◌≡◌, ℕ, ◌≤◌, List, [], ◌∷◌, length}
use Rattle.std.specs.List.{flat_map}
use Rattle.proc_syntax.specs.declared.call.Block.{Block}
use Rattle.proc_syntax.specs.declared.call.Tx.{Tx}

abbrev pub txs_of : Block → List Tx
txs_of block = block.txs

-- the transactions of all blocks
abbrev pub joined : List Block → List Tx
joined blocks = flat_map txs_of blocks

-- each block but the last has `most` transactions, and the last has from 1 to `most`
abbrev pub FilledBy : ℕ → List Block → Type 0
FilledBy most [] = Unit {0}
FilledBy most (block ∷ []) = (1 ≤ length block.txs) × (length block.txs ≤ most)
FilledBy most (block ∷ next ∷ blocks) = (length block.txs ≡ most) × FilledBy most (next ∷ blocks)
