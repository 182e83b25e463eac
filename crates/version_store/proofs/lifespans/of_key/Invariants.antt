use Rattle.std.proofs.Common.{◌≡◌, ◌++◌, drop}
use Rattle.row_sets.specs.Lifespans.{is_of_key, lifespans}
use Rattle.row_sets.specs.Log.{history_of}
use Rattle.version_store.proofs.lifespans.of_key.Given as goal

-- the versions so far, and those of the writes that are left
abbrev pub invariant-loop-number : goal.invariant-loop-number
invariant-loop-number l = l.versions ++ lifespans (is_of_key l.table l.key) (drop l.number (history_of l.log)) ≡ lifespans (is_of_key l.table l.key) (history_of l.log)
