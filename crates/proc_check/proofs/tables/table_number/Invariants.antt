use Rattle.std.proofs.Common.{◌≡◌, drop}
use Rattle.std.specs.List.{position_from}
use Rattle.std.specs.Str.{bytes_eq}
use Rattle.proc_check.proofs.tables.table_number.Given as goal

-- the table is among those that are left
abbrev pub invariant-loop-i : goal.invariant-loop-i
invariant-loop-i l = position_from (λ table. bytes_eq table.name.name l.name) l.i (drop l.i l.tables) ≡ position_from (λ table. bytes_eq table.name.name l.name) 0 l.tables
