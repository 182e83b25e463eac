use Rattle.node_core.proofs.Dropped_rows.{Drops}
use Rattle.node_core.proofs.dropping.drop_id.Given as goal

abbrev pub invariant-loop-number : goal.invariant-loop-number
invariant-loop-number l = Drops l.id l.fn.rows.items l.rows.items l.number

abbrev pub decreases-loop-number : goal.decreases-loop-number
decreases-loop-number l = l.number
