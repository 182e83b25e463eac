use Rattle.std.proofs.Common.{ap, arith, refl, sym, ◌+◌, ◌∙◌}
use Rattle.load_gen.proofs.Listing.{more_arrivals, no_arrivals}
use Rattle.load_gen.specs.Transactions.{load_tx}
use Rattle.load_gen.proofs.arrivals.arrivals_of.Goals as goal

pub loop-init : goal.loop-init
loop-init c = (c.new-arrivals.ensures ∙ no_arrivals c.args.load c.args.node, c.new-drawn.ensures.next, c.new-drawn.ensures.load)

pub loop-preserved : goal.loop-preserved
loop-preserved c =
    let so = c.loop.invariant in
    let next = so.1 in
    let moved = c.in_ok-tx.ensures.moved in (
      more_arrivals c.args.load c.args.node c.loop.counter c.loop.drawn.next (c.loop.counter + 1) _ _ _ c.in_ok-arrive.ensures so.0
          (c.in_ok-tx.ensures.tx ∙ ap (λ load. load_tx load c.loop.drawn.next) so.2) (sym so.1) refl,
      omega (arith, next, moved),
      c.next_tx.ensures.load ∙ so.2,
    )
