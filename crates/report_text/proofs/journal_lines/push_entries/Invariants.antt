use Rattle.std.proofs.Common.{◌≡◌, ◌++◌, flat_map, drop}
use Rattle.report_text.specs.Report.{entry_line}
use Rattle.report_text.proofs.journal_lines.push_entries.Given as goal

-- what is written and what is left make the whole
abbrev pub invariant-loop-entry : goal.invariant-loop-entry
invariant-loop-entry l =
    l.out ++ flat_map entry_line (drop l.entry-index l.entries) ≡ l.initial.out ++ flat_map entry_line l.entries
