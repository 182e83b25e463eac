use Rattle.std.proofs.Common.{drop, ◌≡◌}
use Rattle.std.specs.List.{position_from}
use Rattle.conflict_rules.proofs.clash.first_shared.Given as goal
use Rattle.node_model.specs.Decide.{first_shared, is_shared}

-- what is left decides the whole
abbrev pub invariant-loop-index : goal.invariant-loop-index
invariant-loop-index l = position_from (is_shared l.others) l.index (drop l.index l.writes) ≡ first_shared l.others l.writes
