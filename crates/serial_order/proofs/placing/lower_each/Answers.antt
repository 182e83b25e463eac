use Rattle.std.proofs.Common.{rules}
use Rattle.rw_graph.specs.Graph.{has_edge}
use Rattle.serial_order.proofs.Maps.{map_step}
use Rattle.serial_order.proofs.placing.lower_each.Goals as goal
use Rattle.serial_order.specs.Counts.{lowered}

pub loop-entry-preserved : goal.loop-entry-preserved
loop-entry-preserved c = map_step (lowered (has_edge c.args.set.now) c.args.from) c.args.left.now.items _ c.loop-entry.entry-index _ _ c.loop-entry.invariant (search rules) c.lowered_entry.ensures
