use Rattle.std.proofs.Common.{◌≡◌, ◌++◌, drop}
use Rattle.report_text.specs.Report.{order_text}
use Rattle.report_text.proofs.block.push_order_text.Given as goal

-- what is written and what is left make the whole
abbrev pub invariant-loop-position : goal.invariant-loop-position
invariant-loop-position l =
    l.out ++ order_text (drop l.position-index l.positions) ≡ l.initial.out ++ order_text l.positions
