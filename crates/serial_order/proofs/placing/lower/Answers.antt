use Rattle.rw_graph.specs.Graph.{has_edge}
use Rattle.serial_order.proofs.Unreached.{lowered_none}
use Rattle.serial_order.proofs.placing.lower.Goals as goal

pub returns-else-is_left-clause-items : goal.returns-else-is_left-clause-items
returns-else-is_left-clause-items c = lowered_none (has_edge c.args.set.now) c.args.from c.args.left.now.items (c.is_left.ensures c.if-is_left.false)
