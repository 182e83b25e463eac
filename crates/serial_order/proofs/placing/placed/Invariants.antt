use Rattle.std.proofs.Common.{reverse, vec_len}
use Rattle.rw_graph.specs.Graph.{has_edge, positions_of}
use Rattle.serial_order.proofs.placing.placed.Given as goal
use Rattle.serial_order.specs.Counts.{IsLeft}

abbrev pub invariant-loop-from : goal.invariant-loop-from
invariant-loop-from l = IsLeft (has_edge l.set) (positions_of l.set) (reverse l.left.items) l.list

abbrev pub decreases-loop-from : goal.decreases-loop-from
decreases-loop-from l = vec_len l.left
