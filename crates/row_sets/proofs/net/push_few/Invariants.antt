use Rattle.std.proofs.Common.{◌≡◌, ◌≤◌, ◌+◌, ◌++◌, length}
use Rattle.std.specs.Vec.{vec_len, vec_capacity}
use Rattle.row_sets.specs.Overlay.{in_table, net_writes}
use Rattle.row_sets.proofs.net.push_few.Given as goal

-- the writes so far with those of the keys that are left, for which there is room
abbrev pub invariant-loop-key : goal.invariant-loop-key
invariant-loop-key l =
    (l.writes.items ++ net_writes (in_table l.table l.key-iterator.rest.items) ≡ l.fn.writes.items ++ net_writes (in_table l.table l.fn.few.items))
    × (vec_len l.writes + length l.key-iterator.rest.items ≤ vec_len l.fn.writes + length l.fn.few.items)
    × (vec_capacity l.writes ≡ vec_capacity l.fn.writes)
