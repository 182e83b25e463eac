use Rattle.std.proofs.Common.{◌≡◌, ◌+◌, ◌≤◌, drop, length}
use Rattle.node_core.specs.Rows.{eligible_rows}
use Rattle.node_core.proofs.job_rows.count_eligible.Given as goal

abbrev pub invariant-loop-i : goal.invariant-loop-i
invariant-loop-i l = (l.count + length (eligible_rows (l.i + 1) l.height (drop l.i l.rows)) ≡ length (eligible_rows (l.first + 1) l.height (drop l.first l.rows))) × (l.count ≤ l.i)
