use Rattle.std.proofs.Common.{◌≡◌, drop}
use Rattle.std.specs.List.{find}
use Rattle.row_sets.specs.Lifespans.{is_of_key}
use Rattle.row_sets.specs.Log.{history_of}
use Rattle.version_store.proofs.lifespans.next_on.Given as goal

-- the first one is that of those that are left
abbrev pub invariant-loop-number : goal.invariant-loop-number
invariant-loop-number l = find (is_of_key l.table l.key) (drop l.number (history_of l.log)) ≡ find (is_of_key l.table l.key) (drop l.start (history_of l.log))
