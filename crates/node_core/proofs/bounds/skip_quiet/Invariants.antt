use Rattle.std.proofs.Common.{drop, length, ◌+◌, ◌≡◌, ◌≤◌}
use Rattle.node_core.specs.Waiting.{leading_quiet}
use Rattle.node_core.proofs.bounds.skip_quiet.Given as goal

-- the rows so far do not wait
abbrev pub invariant-loop-i : goal.invariant-loop-i
invariant-loop-i l = (l.i + leading_quiet (drop l.i l.rows) ≡ leading_quiet l.rows) × (l.i ≤ length l.rows)
