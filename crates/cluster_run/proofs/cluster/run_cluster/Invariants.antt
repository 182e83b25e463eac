use Rattle.std.specs.Prelude.{All, IfOk, length, ◌+◌, ◌≡◌}
use Rattle.std.specs.Vec.Iter.{into_iter_items, into_iter_len}
use Rattle.cluster_run.proofs.Arriving.{AllFed}
use Rattle.cluster_run.specs.Arrivals.{AreFedBy}
use Rattle.cluster_run.specs.Nodes.{IsNodeOf}
use Rattle.cluster_run.proofs.cluster.run_cluster.Given as goal

-- what is left to be put and what was put are as many as the nodes, each tells what a node tells, and what arrived at it is of its own list
abbrev pub invariant-loop-node : goal.invariant-loop-node
invariant-loop-node g l =
    (length l.nodes + into_iter_len l.node-iterator ≡ length l.arrivals)
    × All (λ told. IfOk told (IsNodeOf l.app.value.app l.blocks)) (into_iter_items l.node-iterator)
    × All (IsNodeOf l.app.value.app l.blocks) l.nodes
    × AllFed (into_iter_items l.node-iterator) l.arrivals (length l.nodes)
    × AreFedBy l.nodes l.arrivals
