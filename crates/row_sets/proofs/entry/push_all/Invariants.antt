use Rattle.std.proofs.Common.{◌≡◌, ◌≤◌, ◌+◌, ◌++◌, length}
use Rattle.row_sets.specs.Versions.{stamped_at}
use Rattle.row_sets.specs.Log.{history_of, room_of}
use Rattle.row_sets.proofs.entry.push_all.Given as goal

-- the writes so far are in the history, and there is room for those that are left
abbrev pub invariant-loop-write : goal.invariant-loop-write
invariant-loop-write l =
    (length l.write-iterator.rest.items ≤ room_of l.log)
    × (room_of l.log + length l.fn.writes ≡ room_of l.fn.log + length l.write-iterator.rest.items)
    × (history_of l.log.items ++ stamped_at l.place l.write-iterator.rest.items ≡ history_of l.fn.log.items ++ stamped_at l.place l.fn.writes)
