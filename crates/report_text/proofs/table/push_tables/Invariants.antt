use Rattle.std.proofs.Common.{◌≡◌, ◌++◌, flat_map, drop}
use Rattle.report_text.specs.Report.{table_lines}
use Rattle.report_text.proofs.table.push_tables.Given as goal

-- what is written and what is left make the whole
abbrev pub invariant-loop-table : goal.invariant-loop-table
invariant-loop-table l =
    l.out ++ flat_map (table_lines l.tables) (drop l.table-index l.shown) ≡ l.initial.out ++ flat_map (table_lines l.tables) l.shown
