use Rattle.std.proofs.Common.{◌+◌, ◌-◌, ◌≤◌}
use Rattle.rw_graph.proofs.Forms.{NoneBelow}
use Rattle.rw_graph.proofs.dangers.form_two.Given as goal
use Rattle.rw_graph.specs.Graph.{has_edge}
use Rattle.rw_graph.specs.Held.{holds}

-- no position so far is the first of a pair
abbrev pub invariant-loop-y : goal.invariant-loop-y
invariant-loop-y l = NoneBelow l.set.positions.items l.set.rising (has_edge l.set) (holds l.edges.out) (holds l.edges.into) (l.last + 1) × (l.last ≤ 1024)

abbrev pub decreases-loop-y : goal.decreases-loop-y
decreases-loop-y l = 1024 - l.last
