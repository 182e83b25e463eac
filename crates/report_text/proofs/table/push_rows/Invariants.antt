use Rattle.std.proofs.Common.{◌≡◌, ◌++◌, flat_map, drop}
use Rattle.report_text.specs.Report.{row_line}
use Rattle.report_text.proofs.table.push_rows.Given as goal

-- what is written and what is left make the whole
abbrev pub invariant-loop-row : goal.invariant-loop-row
invariant-loop-row l =
    l.out ++ flat_map row_line (drop l.row-index l.rows) ≡ l.initial.out ++ flat_map row_line l.rows
