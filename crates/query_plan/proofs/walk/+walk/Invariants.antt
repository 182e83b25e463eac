use Rattle.std.proofs.Common.{◌≡◌, ◌≤◌, ◌++◌, ◌-◌, All, length}
use Rattle.query_plan.specs.Cells.{IsEarly}
use Rattle.query_plan.specs.Walk.{going_by, going_on, tables_of}
use Rattle.rel_base.specs.Tables.{tables_at}
use Rattle.query_plan.proofs.walk.+walk.Given as goal

abbrev pub decreases-walk : goal.decreases-walk
decreases-walk g l = length l.asked.now.steps.now - length l.prefix.now

-- the rows that were added, and those of the rows of the source that are left, are all
abbrev pub invariant-loop-seen : goal.invariant-loop-seen
invariant-loop-seen g l =
    (l.prefix ≡ l.initial.prefix)
    × (length l.rows ≤ 1000000)
    × All IsEarly l.seen-iterator.rest.items
    × (l.rows ++ going_by (tables_at l.asked.height (g.V.Versions.history l.asked.versions.now)) l.asked.comparisons.now l.asked.columns.now (tables_of l.asked.steps.now) l.initial.prefix l.seen-iterator.rest.items
    ≡ l.initial.rows ++ going_on (tables_at l.asked.height (g.V.Versions.history l.asked.versions.now)) l.asked.comparisons.now l.asked.columns.now (tables_of l.asked.steps.now) l.initial.prefix)
