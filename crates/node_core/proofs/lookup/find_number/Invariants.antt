use Rattle.node_core.proofs.Walks.{Walks}
use Rattle.node_core.proofs.lookup.find_number.Given as goal

abbrev pub invariant-loop-number : goal.invariant-loop-number
invariant-loop-number l = Walks l.tx l.rows l.number l.found

-- the links go down
abbrev pub decreases-loop-number : goal.decreases-loop-number
decreases-loop-number l = l.number
