use Rattle.rw_graph.specs.Graph.{has_edge, positions_of}
use Rattle.serial_order.proofs.Bare.{bare_order, order_serial}
use Rattle.serial_order.proofs.placing.order.Goals as goal

pub returns-then-is_bare-clause-order : goal.returns-then-is_bare-clause-order
returns-then-is_bare-clause-order c =
    bare_order (has_edge c.args.set.now) (c.is_bare.ensures c.if-is_bare.true) (positions_of c.args.set.now) c.as_they_stand.result c.as_they_stand.ensures

pub returns-then-is_bare-clause-serial : goal.returns-then-is_bare-clause-serial
returns-then-is_bare-clause-serial c = order_serial (has_edge c.args.set.now) (positions_of c.args.set.now) c.as_they_stand.result (returns-then-is_bare-clause-order c)

pub returns-else-is_bare-clause-serial : goal.returns-else-is_bare-clause-serial
returns-else-is_bare-clause-serial c = order_serial (has_edge c.args.set.now) (positions_of c.args.set.now) c.placed.result c.placed.ensures
