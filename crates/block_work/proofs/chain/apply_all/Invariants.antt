use Rattle.std.proofs.Common.{All, length, ◌++◌, ◌≡◌, ◌≤◌}
use Rattle.std.specs.Vec.Iter.{into_iter_items}
use Rattle.block_work.proofs.chain.apply_all.Given as goal
use Rattle.block_work.specs.Block.{StandInOrder}
use Rattle.block_work.specs.Chain.{IsUpTo, stamps}
use Rattle.node_model.specs.History.{placed_of}

-- the store with what is left is the store at the end, and there is room for what is left
abbrev pub invariant-loop-done : goal.invariant-loop-done
invariant-loop-done g l = (g.V.Versions.tables l.versions ≡ g.V.Versions.tables l.fn.versions)
    × StandInOrder (g.V.Versions.tables l.versions) l.last (into_iter_items l.done-iterator) 1024
    × All (IsUpTo l.number l.last) (g.V.Versions.history l.versions)
    × (g.V.Versions.history l.versions ++ stamps l.number (into_iter_items l.done-iterator) ≡ g.V.Versions.history l.fn.versions ++ stamps l.number l.fn.committed.items)
    × (length (placed_of (into_iter_items l.done-iterator)) ≤ g.V.Versions.spare l.versions)
