use Rattle.std.proofs.Common.{refl, reverse, rules}
use Rattle.rw_graph.specs.Graph.{has_edge, positions_of}
use Rattle.serial_order.proofs.Steps.{done_of, step_back}
use Rattle.serial_order.proofs.placing.placed.Goals as goal

pub loop-from-preserved : goal.loop-from-preserved
loop-from-preserved c =
    rw (c.lower.ensures.items, c.in_ok-push.ensures.ok) (step_back (has_edge c.args.set.now) (positions_of c.args.set.now) c.loop-from.left.items c.take_free.new.left.items _ _ _ _ _ refl
    c.take_free.ensures.taken c.in-Some.is c.loop-from.invariant)

pub returns : goal.returns
returns c =
    done_of (has_edge c.args.set.now) (positions_of c.args.set.now) (reverse c.loop-from.left.items) (reverse c.take_free.new.left.items) _ _ _ _ refl c.take_free.ensures.taken (search rules) c.loop-from.invariant
