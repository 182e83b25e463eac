use Rattle.std.proofs.Common.{◌≡◌, ◌≤◌, ◌+◌, ◌++◌, length}
use Rattle.std.specs.Vec.{vec_len, vec_capacity}
use Rattle.row_sets.specs.Overlay.{flat, net_writes}
use Rattle.row_sets.proofs.by_table.push_tables.Given as goal

-- the writes so far with those of the tables that are left, for which there is room
abbrev pub invariant-loop-table : goal.invariant-loop-table
invariant-loop-table l =
    (l.writes.items ++ net_writes (flat l.table-iterator) ≡ l.fn.writes.items ++ net_writes (flat l.fn.tables.entries))
    × (vec_len l.writes + length (flat l.table-iterator) ≤ vec_capacity l.writes)
