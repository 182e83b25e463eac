use Rattle.std.proofs.Common.{◌≡◌, ◌++◌, drop, length}
use Rattle.row_sets.specs.BlockWrites.{writes_from}
use Rattle.row_sets.proofs.block_writes.block_from.Given as goal

-- those that stand in the answer, and then those that are left
abbrev pub invariant-loop-at : goal.invariant-loop-at
invariant-loop-at g l =
    let history = g.V.Versions.history l.versions in
    (l.writes ++ writes_from l.number (drop l.at history) ≡ writes_from l.number (drop l.fn.from history)) × (l.at-end ≡ length history)
