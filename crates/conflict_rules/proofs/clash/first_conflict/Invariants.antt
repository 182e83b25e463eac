use Rattle.std.proofs.Common.{drop, ◌≡◌}
use Rattle.conflict_rules.proofs.clash.first_conflict.Given as goal
use Rattle.node_model.specs.Decide.{clash}

-- what is left decides the whole
abbrev pub invariant-loop-done : goal.invariant-loop-done
invariant-loop-done l = clash (drop l.done-index l.committed) l.writes ≡ clash l.committed l.writes
