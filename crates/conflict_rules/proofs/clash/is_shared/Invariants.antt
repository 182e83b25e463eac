use Rattle.std.proofs.Common.{drop, ◌≡◌}
use Rattle.conflict_rules.proofs.clash.is_shared.Given as goal
use Rattle.node_model.specs.Decide.{is_shared}

-- what is left decides the whole
abbrev pub invariant-loop-other : goal.invariant-loop-other
invariant-loop-other l = is_shared (drop l.other-index l.others) l.write ≡ is_shared l.others l.write
