-- The result of a block that was decided.
use Rattle.block_digest.specs.Codable.{HasFewKey, IsFewWrite}
use Rattle.block_digest.specs.Lent.{placed_at}
use Rattle.node_model.specs.Fold.{digest_after, no_digest}
use Rattle.node_model.specs.declared.result.BlockResult.{BlockResult}
use Rattle.node_model.specs.declared.result.Committed.{Committed}
use Rattle.node_model.specs.declared.result.Told.{Told}
use Rattle.node_model.specs.Edges.{StandByPosition}
use Rattle.std.specs.Prelude.{All, List, length, ◌≤◌, ℕ}
use Rattle.proc_syntax.specs.Limits.{most_steps, most_transactions}

-- the digest of the last of some blocks, or the one before the first block
abbrev pub last_digest : List BlockResult → List ℕ
last_digest blocks = digest_after no_digest blocks

-- a committed transaction has few writes, of few values each
abbrev pub HasFewWrites : Committed → Type 0
HasFewWrites done = (length done.writes ≤ most_steps) × All (λ write. IsFewWrite (placed_at done.pos write)) done.writes

-- a block is within the limits: there are at most 1,024 transactions, and all parts have a code
pub record IsWithinLimits (outcomes : List Told) (committed : List Committed) : Type 0 where
  pub few_outcomes : length outcomes ≤ most_transactions
  pub few_committed : length committed ≤ most_transactions
  pub rise : StandByPosition committed
  pub keys : All (λ told. HasFewKey told.outcome) outcomes
  pub writes : All HasFewWrites committed
