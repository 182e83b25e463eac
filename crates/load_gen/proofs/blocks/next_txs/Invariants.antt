use Rattle.std.proofs.Common.{◌+◌, ◌≡◌}
use Rattle.load_gen.specs.Blocks.{txs_from}
use Rattle.load_gen.specs.Transactions.{load_tx}
use Rattle.load_gen.proofs.blocks.next_txs.Given as goal

abbrev pub invariant-loop : goal.invariant-loop
invariant-loop l = (l.txs ≡ txs_from (load_tx l.fn.drawn.load) l.fn.drawn.next l.counter) × (l.drawn.next ≡ l.fn.drawn.next + l.counter) × (l.drawn.load ≡ l.fn.drawn.load)
