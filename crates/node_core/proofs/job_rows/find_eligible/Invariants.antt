use Rattle.std.proofs.Common.{◌≡◌, ◌+◌, drop}
use Rattle.std.specs.Prelude.{slice_get}
use Rattle.node_core.specs.Rows.{eligible_rows}
use Rattle.node_core.proofs.job_rows.find_eligible.Given as goal

abbrev pub invariant-loop-i : goal.invariant-loop-i
invariant-loop-i l = slice_get (eligible_rows (l.i + 1) l.height (drop l.i l.rows)) l.left ≡ slice_get (eligible_rows (l.first + 1) l.height (drop l.first l.rows)) l.place
