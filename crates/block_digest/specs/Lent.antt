-- A block's result whose parts are lent, and whose writes stand with their transactions.
use Rattle.block_digest.specs.declared.lent.LentResult.{LentResult}
use Rattle.node_model.specs.Fold.{no_digest}
use Rattle.node_model.specs.History.{placed_of}
use Rattle.node_model.specs.declared.result.BlockResult.{BlockResult}
use Rattle.rel_base.specs.declared.access.Placed.{Placed}
use Rattle.rel_base.specs.declared.access.Write.{Write}
use Rattle.std.specs.Prelude.{ℕ}

-- a write at a position
abbrev pub placed_at : ℕ → Write → Placed
placed_at pos write = record { pos = pos; write = write }

-- the result that is lent, with all its writes and before it has a digest
abbrev pub result_lent : LentResult → BlockResult
result_lent lent = record {
  number = lent.number;
  time = lent.time;
  outcomes = lent.outcomes.now;
  order = lent.order.now;
  writes = placed_of lent.committed.now;
  digest = no_digest;
}
