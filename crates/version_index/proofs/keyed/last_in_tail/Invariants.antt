use Rattle.std.proofs.Common.{◌≡◌, ◌≤◌, ℕ, false, take}
use Rattle.version_index.specs.Chain.{is_on}
use Rattle.version_index.specs.Numbers.{passes_at}
use Rattle.version_index.specs.View.{history_in}
use Rattle.version_index.proofs.keyed.last_in_tail.Given as goal

-- none from the end on is on the key
abbrev pub invariant-loop-end : goal.invariant-loop-end
invariant-loop-end l = (l.end ≤ l.below) × ((j : ℕ) → l.end ≤ j → passes_at (is_on (l.view.table, l.key)) (take l.below (history_in l.view)) j ≡ false)

abbrev pub decreases-loop-end : goal.decreases-loop-end
decreases-loop-end l = l.end
