use Rattle.std.proofs.Common.{◌-◌, ◌≡◌}
use Rattle.load_gen.specs.Blocks.{txs_from}
use Rattle.load_gen.specs.Transactions.{opening_tx}
use Rattle.load_gen.proofs.blocks.openings.Given as goal

abbrev pub invariant-loop-number : goal.invariant-loop-number
invariant-loop-number l = l.txs ≡ txs_from opening_tx 1 (l.number - 1)
