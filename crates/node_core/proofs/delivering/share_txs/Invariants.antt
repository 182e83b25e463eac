use Rattle.std.proofs.Common.{map, take, ◌≡◌}
use Rattle.node_core.proofs.delivering.share_txs.Given as goal

abbrev pub invariant-loop-tx : goal.invariant-loop-tx
invariant-loop-tx l = map (λ tx. tx.value) l.shared.items ≡ take l.tx-index l.txs
