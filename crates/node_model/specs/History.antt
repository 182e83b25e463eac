-- The results of blocks as the chain grows: what they committed, and the tables and times that later transactions see.
use Rattle.std.specs.List.{flat_map}
use Rattle.std.specs.Prelude.{ℕ, ℤ, pos, List, [], ◌∷◌, ◌==◌, cond, map}
use Rattle.node_model.specs.declared.result.Committed.{Committed}
use Rattle.node_model.specs.declared.result.Told.{Told}
use Rattle.rel_base.specs.Tables.{Stamped, Tables, tables_at}
use Rattle.rel_base.specs.declared.access.Placed.{Placed}

-- a block that was decided: its outcomes in order, and its committed transactions with their reads and writes
pub record SealedBlock : Type 0 where
  pub number : ℕ
  pub time : ℤ
  pub outcomes : List Told
  pub committed : List Committed

-- the writes of committed transactions, each at its transaction's position
abbrev pub placed_of : List Committed → List Placed
placed_of committed = flat_map (λ done. map (λ write. record { pos = done.pos; write = write }) done.writes) committed

-- all committed writes of a chain, in order of their blocks, each with the block's number
abbrev pub history_of : List SealedBlock → List Stamped
history_of chain = flat_map (λ block. map (λ placed. (block.number, placed)) (placed_of block.committed)) chain

-- the ids that stand in a chain
abbrev pub ids_of : List SealedBlock → List (List ℕ)
ids_of chain = flat_map (λ block. map (λ told. told.id) block.outcomes) chain

-- the tables after the block of a height
abbrev pub snapshot : ℕ → List SealedBlock → Tables
snapshot height chain = tables_at height (history_of chain)

-- the time of the block of a height: 0 at height 0, before the first block
abbrev pub time_at : ℕ → List SealedBlock → ℤ
time_at height [] = pos 0
time_at height (block ∷ rest) = cond (block.number == height) block.time (time_at height rest)

-- ---- for proofs

-- the ids that stand in a block
abbrev pub ids_told : List Told → List (List ℕ)
ids_told outcomes = map (λ told. told.id) outcomes

-- the writes of a block, each with the block's number
abbrev pub stamped_of : SealedBlock → List Stamped
stamped_of block = map (λ placed. (block.number, placed)) (placed_of block.committed)
