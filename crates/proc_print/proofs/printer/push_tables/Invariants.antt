use Rattle.std.proofs.Common.{◌≡◌, ◌++◌, flat_map, drop}
use Rattle.proc_print.specs.Printed.{table_text}
use Rattle.proc_print.proofs.printer.push_tables.Given as goal

-- what is written and what is left make the whole
abbrev pub invariant-loop-table : goal.invariant-loop-table
invariant-loop-table l = l.out.items ++ flat_map table_text (drop l.table-index l.tables) ≡ l.initial.out.items ++ flat_map table_text l.tables
