use Rattle.std.proofs.Common.{drop, length, ◌-◌, ◌≡◌, ◌≤◌, ◌||◌, ℕ}
use Rattle.conflict_rules.proofs.walk.edges_among.Given as goal
use Rattle.conflict_rules.specs.Halves.{has_half_edge}
use Rattle.rw_graph.specs.Held.{holds}

-- the edges so far, and those of what is left, are all
abbrev pub invariant-loop-number : goal.invariant-loop-number
invariant-loop-number l =
    ((pos : ℕ) → (holds l.edges pos || has_half_edge l.tables (drop l.from l.committed) l.half pos) ≡ has_half_edge l.tables l.committed l.half pos)
    × (l.from ≤ length l.committed)

abbrev pub decreases-loop-number : goal.decreases-loop-number
decreases-loop-number l = length l.committed - l.from
