use Rattle.std.proofs.Common.{drop, ◌≡◌}
use Rattle.std.specs.List.{list_all}
use Rattle.rw_graph.specs.Graph.{has_edge}
use Rattle.serial_order.proofs.check.all_come_after.Given as goal
use Rattle.serial_order.specs.Checking.{may_follow}

-- what is left decides the whole
abbrev pub invariant-loop-later : goal.invariant-loop-later
invariant-loop-later l = list_all (may_follow (has_edge l.set) l.earlier) (drop l.later-index l.list) ≡ list_all (may_follow (has_edge l.set) l.earlier) l.list
