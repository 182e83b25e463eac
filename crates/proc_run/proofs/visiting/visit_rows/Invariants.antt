use Rattle.std.proofs.Common.{◌≡◌, ◌≤◌, ◌<◌, ◌-◌, [], drop, length, vec_len}
use Rattle.proc_run.specs.Remains.{state, IsSameVisit}
use Rattle.proc_run.proofs.visiting.visit_rows.Given as goal

-- what is left comes to the same
abbrev pub invariant-loop-reached : goal.invariant-loop-reached
invariant-loop-reached l =
    (l.run.steps ≤ 100000) × (l.fn.run.steps ≤ l.run.steps) × (l.run.made ≡ l.fn.run.made) × (l.run.own ≡ l.fn.run.own)
    × (l.reached.statement < length l.visit.body.now → l.fn.run.steps < l.run.steps)
    × IsSameVisit l.visit.columns.now l.visit.holder.slot l.visit.holder.table l.visit.body.now [] (drop l.fn.next l.fn.rows.items) (state l.fn.run) (drop l.reached.statement l.visit.body.now) (drop l.reached.row l.rows.items) (state l.run)

abbrev pub decreases-loop-reached : goal.decreases-loop-reached
decreases-loop-reached l = vec_len l.rows - l.reached.row
