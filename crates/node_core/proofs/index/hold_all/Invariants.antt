use Rattle.std.proofs.Common.{All, List, take, ◌≡◌, ℕ}
use Rattle.node_core.specs.ById.{HasEntry, newest_of, tx_ids}
use Rattle.node_core.proofs.index.hold_all.Given as goal

-- the ids so far are held
abbrev pub invariant-loop-tx : goal.invariant-loop-tx
invariant-loop-tx l = All (HasEntry l.index) (tx_ids (take l.tx-index l.txs)) × ((other : List ℕ) → newest_of l.index other ≡ newest_of l.fn.index other) × (l.index.older ≡ l.fn.index.older)
