use Rattle.std.proofs.Common.{◌≡◌, ◌++◌, take}
use Rattle.std.specs.List.{flat_map}
use Rattle.chain_file.specs.Text.{tx_line}
use Rattle.order_queue.proofs.drafting.push_txs.Given as goal

abbrev pub invariant-loop-tx : goal.invariant-loop-tx
invariant-loop-tx l = l.out.items ≡ l.initial.out.items ++ flat_map tx_line (take l.tx-index l.txs)
