use Rattle.std.proofs.Common.{All, drop, ◌++◌, ◌≡◌}
use Rattle.std.specs.List.{flat_map}
use Rattle.block_digest.proofs.lent.push_all.Given as goal
use Rattle.block_digest.specs.Codable.{IsFewWrite}
use Rattle.canon_code.specs.Writes.{write_code}
use Rattle.node_model.specs.History.{placed_of}

-- what is written, with the code of what is left, is the whole, and what is left has few values
abbrev pub invariant-loop-done : goal.invariant-loop-done
invariant-loop-done l = (l.out.items ++ flat_map write_code (placed_of (drop l.done-index l.committed)) ≡ l.fn.out.items ++ flat_map write_code (placed_of l.committed))
    × All IsFewWrite (placed_of (drop l.done-index l.committed))
