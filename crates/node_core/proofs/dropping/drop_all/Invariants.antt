use Rattle.std.proofs.Common.{map, take, ◌≡◌}
use Rattle.node_core.specs.Over.{drop_among}
use Rattle.proc_syntax.specs.declared.call.Tx.{Tx}
use Rattle.node_core.proofs.dropping.drop_all.Given as goal

-- the jobs of the ids so far are dropped
abbrev pub invariant-loop-tx : goal.invariant-loop-tx
invariant-loop-tx l = l.rows.items ≡ map (drop_among (map (λ (tx : Tx). tx.id) (take l.tx-index l.txs))) l.fn.rows.items
