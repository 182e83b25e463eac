use Rattle.std.proofs.Common.{◌≤◌, ◌-◌, All, length, take}
use Rattle.row_sets.specs.Log.{history_of}
use Rattle.version_index.proofs.span.search_above.Given as goal

-- what is before the part that is left is low
abbrev pub invariant-loop-start : goal.invariant-loop-start
invariant-loop-start l = (l.start ≤ l.end) × (l.end ≤ length l.entries) × All (λ stamped. stamped.0 ≤ l.height) (take l.start (history_of l.entries))

-- it gets smaller
abbrev pub decreases-loop-start : goal.decreases-loop-start
decreases-loop-start l = l.end - l.start
