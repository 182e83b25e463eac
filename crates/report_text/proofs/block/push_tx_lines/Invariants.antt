use Rattle.std.proofs.Common.{◌≡◌, ◌++◌, ◌+◌, drop}
use Rattle.report_text.specs.Report.{numbered, tx_line}
use Rattle.report_text.proofs.block.push_tx_lines.Given as goal

-- what is written and what is left make the whole
abbrev pub invariant-loop-before : goal.invariant-loop-before
invariant-loop-before l =
    l.out ++ numbered (tx_line l.tables) (l.before + 1) (drop l.before l.outcomes) ≡ l.initial.out ++ numbered (tx_line l.tables) 1 l.outcomes
