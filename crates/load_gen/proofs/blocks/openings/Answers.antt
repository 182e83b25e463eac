use Rattle.std.proofs.Common.{arith, ◌+◌, ◌-◌, ◌∙◌}
use Rattle.load_gen.proofs.Listing.{more_txs, no_txs}
use Rattle.load_gen.specs.Transactions.{opening_tx}
use Rattle.load_gen.proofs.blocks.openings.Goals as goal

pub loop-number-init : goal.loop-number-init
loop-number-init c = c.new-txs.ensures ∙ no_txs opening_tx 1

pub loop-number-preserved : goal.loop-number-preserved
loop-number-preserved c =
    let from = c.loop-number.auto.number in
    more_txs opening_tx 1 (c.loop-number.number - 1) c.loop-number.number (c.loop-number.number + 1 - 1) _ _ _ c.in_ok-push.ensures.ok c.loop-number.invariant c.in_ok-opening_tx.ensures (omega (arith, from)) (omega (arith, from))
