use Rattle.std.specs.Prelude.{All, vec_capacity, vec_items, vec_len, ◌≡◌, ◌≤◌}
use Rattle.cluster_run.specs.Standing.{AllBring, KeepsBlocks}
use Rattle.turn_lock.specs.Passes.{left, made}
use Rattle.cluster_run.proofs.threads.fn.run_crew.scope.Given as goal

-- as many passes are out as threads were started, each of which promises a pass of the node
abbrev pub invariant-loop-i : goal.invariant-loop-i
invariant-loop-i g l =
    KeepsBlocks l.initial.pass l.pass
    × (made l.pass ≡ l.i)
    × (left l.pass ≡ vec_len l.children)
    × (l.actors ≤ vec_capacity l.children)
    × (vec_len l.children ≤ l.i)
    × All (λ child. (child.promise.node.value ≡ l.node) × (child.promise.executors ≡ l.crew.executors) × (child.promise.arrivals.now ≡ l.crew.arrivals.now)) (vec_items l.children)
    × AllBring l.crew.executors l.crew.arrivals.now l.pass
