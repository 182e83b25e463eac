use Rattle.std.proofs.Common.{◌≡◌, ◌<◌, ◌≤◌, false, ℕ}
use Rattle.row_sets.specs.Watched.{is_watched}
use Rattle.row_sets.specs.Log.{history_of}
use Rattle.version_index.specs.Numbers.{passes_at}
use Rattle.version_index.proofs.hits.first_hit.Given as goal

-- none of the writes so far is hit
abbrev pub invariant-loop-number : goal.invariant-loop-number
invariant-loop-number l = (j : ℕ) → l.start ≤ j → j < l.number → passes_at (is_watched l.watch) (history_of l.entries) j ≡ false
