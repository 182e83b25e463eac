use Rattle.std.proofs.Common.{◌≡◌, ◌≤◌, ◌+◌, ◌-◌, ℕ, false, length}
use Rattle.version_index.specs.Chain.{is_seen}
use Rattle.version_index.specs.Found.{tail_in}
use Rattle.version_index.specs.Numbers.{passes_at}
use Rattle.version_index.specs.View.{history_in}
use Rattle.version_index.proofs.finding.seen_in_tail.Given as goal

-- none from the end on is seen, and each of those took one step
abbrev pub invariant-loop-end : goal.invariant-loop-end
invariant-loop-end g l =
    (l.end ≤ length l.look_up.view.entries.now) × ((j : ℕ) → l.end ≤ j → passes_at (is_seen (l.look_up.view.table, l.key) l.height) (history_in l.look_up.view) j ≡ false)
    × (l.fn.steps ≤ l.steps) × (l.steps + (l.end - l.look_up.view.noted) ≤ l.fn.steps + tail_in l.look_up.view)

abbrev pub decreases-loop-end : goal.decreases-loop-end
decreases-loop-end g l = l.end
