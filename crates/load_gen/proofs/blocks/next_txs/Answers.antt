use Rattle.std.proofs.Common.{ap, arith, refl, sym, ◌+◌, ◌∙◌}
use Rattle.load_gen.proofs.Listing.{more_txs, no_txs}
use Rattle.load_gen.specs.Transactions.{load_tx}
use Rattle.load_gen.proofs.blocks.next_txs.Goals as goal

pub loop-init : goal.loop-init
loop-init c = (c.new-txs.ensures ∙ no_txs (load_tx c.args.drawn.now.load) c.args.drawn.now.next, omega arith, refl)

pub loop-preserved : goal.loop-preserved
loop-preserved c =
    let so = c.loop.invariant in
    let next = so.1 in
    let moved = c.in_ok-next_tx.ensures.moved in (
      more_txs (load_tx c.args.drawn.now.load) c.args.drawn.now.next c.loop.counter c.loop.drawn.next (c.loop.counter + 1) _ _ _ c.in_ok-push.ensures.ok so.0
          (c.in_ok-next_tx.ensures.tx ∙ ap (λ load. load_tx load c.loop.drawn.next) so.2) (sym so.1) refl,
      omega (arith, next, moved),
      c.next_tx.ensures.load ∙ so.2,
    )
