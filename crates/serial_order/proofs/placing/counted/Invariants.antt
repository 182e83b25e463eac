use Rattle.std.proofs.Common.{map, take, ◌≡◌}
use Rattle.rw_graph.specs.Graph.{has_edge}
use Rattle.serial_order.proofs.placing.counted.Given as goal
use Rattle.serial_order.specs.Counts.{entry_of}

-- the entries of the positions so far
abbrev pub invariant-loop-to : goal.invariant-loop-to
invariant-loop-to l = l.left.items ≡ map (entry_of (has_edge l.set) l.to-items) (take l.to-index l.to-items)
