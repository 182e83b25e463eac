use Rattle.std.proofs.Common.{length, map, ◌+◌, ◌++◌, ◌≡◌, ◌≤◌}
use Rattle.std.specs.Vec.Iter.{into_iter_items}
use Rattle.std.specs.Prelude.{vec_capacity, vec_len}
use Rattle.node_core.specs.ById.{HasRoom, Indexes, ids_of, tx_ids}
use Rattle.node_core.specs.Rows.{new_row}
use Rattle.node_core.proofs.job_rows.push_rows.Given as goal

abbrev pub invariant-loop-tx : goal.invariant-loop-tx
invariant-loop-tx l =
    (l.rows.items ++ map new_row (into_iter_items l.tx-iterator) ≡ l.fn.rows.items ++ map new_row l.fn.txs.items) × (vec_len l.rows + length (into_iter_items l.tx-iterator) ≤ vec_capacity l.rows)
    × HasRoom l.index (tx_ids (into_iter_items l.tx-iterator)) × (Indexes l.fn.index (ids_of l.fn.rows.items) → Indexes l.index (ids_of l.rows.items))
