use Rattle.std.proofs.Common.{drop, length, ◌+◌, ◌≡◌}
use Rattle.block_digest.proofs.lent.count_writes.Given as goal
use Rattle.node_model.specs.History.{placed_of}

-- the count so far, with the writes of what is left, is the whole
abbrev pub invariant-loop-done : goal.invariant-loop-done
invariant-loop-done l = l.count + length (placed_of (drop l.done-index l.committed)) ≡ length (placed_of l.committed)
