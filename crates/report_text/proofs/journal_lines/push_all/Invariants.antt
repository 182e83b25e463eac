use Rattle.std.proofs.Common.{◌≡◌, ◌++◌, ◌+◌, drop}
use Rattle.report_text.specs.Report.{numbered, journal_lines}
use Rattle.report_text.proofs.journal_lines.push_all.Given as goal

-- what is written and what is left make the whole
abbrev pub invariant-loop-before : goal.invariant-loop-before
invariant-loop-before l =
    l.out ++ numbered journal_lines (l.before + 1) (drop l.before l.nodes) ≡ l.initial.out ++ numbered journal_lines 1 l.nodes
