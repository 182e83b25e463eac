use Rattle.std.proofs.Common.{◌≡◌, ◌≤◌, ◌<◌, ◌+◌, ◌*◌, ◌-◌, ◌^◌, ℕ, false, length, true}
use Rattle.row_sets.specs.Log.{history_of}
use Rattle.version_index.specs.Chains.{lists_of, numbers_at}
use Rattle.version_index.specs.Found.{is_low}
use Rattle.version_index.specs.Numbers.{passes_at}
use Rattle.version_index.proofs.finding.count_low.Given as goal

-- what is before the part that is left is low, what is after it is not, and the steps so far paid for halving it
abbrev pub invariant-loop-low : goal.invariant-loop-low
invariant-loop-low g l =
    (l.low ≤ l.high) × (l.high ≤ length (numbers_at (lists_of l.look_up.view.index.now.chains) l.slot))
    × ((i : ℕ) → i < l.low → passes_at (is_low (history_of l.look_up.view.entries.now) l.height) (numbers_at (lists_of l.look_up.view.index.now.chains) l.slot) i ≡ true)
    × ((i : ℕ) → l.high ≤ i → passes_at (is_low (history_of l.look_up.view.entries.now) l.height) (numbers_at (lists_of l.look_up.view.index.now.chains) l.slot) i ≡ false)
    × (l.fn.steps ≤ l.steps)
    × (2 ^ (l.steps - l.fn.steps) * (l.high - l.low) ≤ length (numbers_at (lists_of l.look_up.view.index.now.chains) l.slot))
    × (2 ^ (l.steps - l.fn.steps) ≤ 2 * length (numbers_at (lists_of l.look_up.view.index.now.chains) l.slot) + 1)

abbrev pub decreases-loop-low : goal.decreases-loop-low
decreases-loop-low g l = l.high - l.low
