use Rattle.std.specs.Prelude.{All, ◌≡◌}
use Rattle.std.specs.Vec.Iter.{into_iter_items, into_iter_len}
use Rattle.cluster_run.specs.Standing.{AllBring, KeepsBlocks}
use Rattle.turn_lock.specs.Passes.{left}
use Rattle.cluster_run.proofs.threads.join_all.Given as goal

abbrev pub invariant-loop-child : goal.invariant-loop-child
invariant-loop-child g l =
    KeepsBlocks l.fn.pass l.pass
    × (left l.pass ≡ into_iter_len l.child-iterator)
    × All (λ child. (child.promise.node.value ≡ l.node) × (child.promise.executors ≡ l.crew.executors) × (child.promise.arrivals.now ≡ l.crew.arrivals.now)) (into_iter_items l.child-iterator)
    × AllBring l.crew.executors l.crew.arrivals.now l.pass
