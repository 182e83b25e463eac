use Rattle.std.proofs.Common.{drop, map, take, ◌++◌, ◌≡◌}
use Rattle.rw_graph.specs.Graph.{has_edge}
use Rattle.serial_order.proofs.placing.lower_each.Given as goal
use Rattle.serial_order.specs.Counts.{lowered}

-- the entries so far are lowered
abbrev pub invariant-loop-entry : goal.invariant-loop-entry
invariant-loop-entry l = l.entry-items ≡ map (lowered (has_edge l.set) l.from) (take l.entry-index l.fn.left.items) ++ drop l.entry-index l.fn.left.items
