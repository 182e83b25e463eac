use Rattle.std.proofs.Common.{drop, ◌≡◌}
use Rattle.rw_graph.specs.Graph.{has_edge}
use Rattle.serial_order.proofs.check.is_forward.Given as goal
use Rattle.serial_order.specs.Checking.{all_follow}

-- what is left decides the whole
abbrev pub invariant-loop-index : goal.invariant-loop-index
invariant-loop-index l = all_follow (has_edge l.set) (drop l.index l.list) ≡ all_follow (has_edge l.set) l.list
