-- The list of committed writes.
use Rattle.std.specs.Prelude.{◌≡◌, ℕ, IsSomeAnd, List, Option, slice_get}
use Rattle.std.specs.Option.{option_and_then}
use Rattle.rel_base.specs.Tables.{Stamped}
use Rattle.row_sets.specs.declared.entry.LogEntry.{LogEntry}

-- the write of a number that may be there
abbrev pub write_of : List Stamped → Option ℕ → Option Stamped
write_of history number = option_and_then (slice_get history) number

-- the write of a number is there, and of a table
abbrev pub IsOfTable : List LogEntry → ℕ → ℕ → Type 0
IsOfTable log table number = IsSomeAnd (slice_get log number) (λ entry. entry.placed.write.table ≡ table)
