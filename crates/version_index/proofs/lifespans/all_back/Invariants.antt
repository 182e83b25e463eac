use Rattle.std.proofs.Common.{◌≡◌, ◌≤◌, drop, length, reverse}
use Rattle.row_sets.specs.Lifespans.{is_of_table, lifespans}
use Rattle.row_sets.specs.Log.{history_of}
use Rattle.version_index.specs.Rows.{AreFirsts}
use Rattle.version_index.proofs.lifespans.all_back.Given as goal

-- the versions that the writes from the start on left
abbrev pub invariant-loop-start : goal.invariant-loop-start
invariant-loop-start l =
    (l.start ≤ length l.entries) × (reverse l.versions.items ≡ lifespans (is_of_table l.table) (drop l.start (history_of l.entries))) × AreFirsts l.table l.start (history_of l.entries) l.next

abbrev pub decreases-loop-start : goal.decreases-loop-start
decreases-loop-start l = l.start
