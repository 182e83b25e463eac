use Rattle.std.proofs.Common.{drop, map, take, ◌++◌, ◌≡◌}
use Rattle.node_core.specs.Fresh.{HasIds, fresh_in}
use Rattle.node_core.proofs.delivering.fresh_txs.Given as goal

-- the ids so far are those of the transactions so far
abbrev pub invariant-loop-i : goal.invariant-loop-i
invariant-loop-i l =
    HasIds l.before (take l.i l.block.txs)
    × (map (λ tx. tx.value) l.made.items ++ fresh_in l.app.app l.ids l.jobs l.block.number l.block.txs l.i (drop l.i l.block.txs)
    ≡ fresh_in l.app.app l.ids l.jobs l.block.number l.block.txs 0 l.block.txs)
