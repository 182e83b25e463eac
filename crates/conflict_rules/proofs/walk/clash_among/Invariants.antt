use Rattle.std.proofs.Common.{drop, length, ◌-◌, ◌≡◌, ◌≤◌}
use Rattle.conflict_rules.proofs.walk.clash_among.Given as goal
use Rattle.node_model.specs.Decide.{clash}

-- what is left decides the whole
abbrev pub invariant-loop-number : goal.invariant-loop-number
invariant-loop-number l = (clash (drop l.from l.committed) l.writes ≡ clash l.committed l.writes) × (l.from ≤ length l.committed)

abbrev pub decreases-loop-number : goal.decreases-loop-number
decreases-loop-number l = length l.committed - l.from
